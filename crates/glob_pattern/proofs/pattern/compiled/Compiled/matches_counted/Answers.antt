use Rattle.std.proofs.Common.{true, sym, ◌↔◌, map, length, chars, arith}
use Rattle.std.proofs.lemmas.List.{length-map}
use Rattle.glob_pattern.specs.Grammar.Tokens.{shape_of}
use Rattle.glob_pattern.specs.Matching.Splits.{Splits}
use Rattle.glob_pattern.specs.Private.Prefixes.{PrefixSplits}
use Rattle.glob_pattern.specs.Private.Parts.{SplitsPart}
use Rattle.glob_pattern.specs.Private.TextTable.{table_within}
use Rattle.glob_pattern.proofs.Counts.{length-chars, product_fits}
use Rattle.glob_pattern.proofs.MatchingLemmas.Parts.{TokensMatch-iff_part}
use Rattle.glob_pattern.proofs.PositionLemmas.Prefixes.{Splits-iff_prefix}
use Rattle.glob_pattern.proofs.pattern.compiled.Compiled.matches_counted.Goals as goal

pub decide_all-requires-clause-tokens : goal.decide_all-requires-clause-tokens
unfolding table_within
decide_all-requires-clause-tokens g c = rw c.new-judge.ensures.tokens (omega arith)

pub decide_all-requires-clause-start : goal.decide_all-requires-clause-start
decide_all-requires-clause-start g c = rw c.new-judge.ensures.text c.new-judge.ensures.start

pub decide_all-requires-clause-room : goal.decide_all-requires-clause-room
unfolding table_within
decide_all-requires-clause-room g c =
    let judge = c.new-judge.ensures in
    let fits = product_fits (length c.as_slice-tokens.result.now) (length (chars c.args.text.now)) (omega arith)
    (omega (arith, length-chars c.args.text.now)) in
    rw (judge.text, judge.count) (omega (arith, fits))

pub returns-clause-answer : goal.returns-clause-answer
unfolding table_within SplitsPart
returns-clause-answer g c =
    let judge = c.new-judge.ensures in
    let tokens = c.self.inside.tokens.items in
    let text = chars c.args.text.now in
    let match = TokensMatch-iff_part c.args.options tokens text in
    let all = Splits-iff_prefix (table_within true c.args.options tokens text) (map shape_of tokens) in
    let whole : Splits (table_within true c.args.options tokens text) (map shape_of tokens) ↔ PrefixSplits
    (table_within true c.args.options tokens text) (map shape_of tokens) (length tokens) (length text) =
    rw (length-map tokens shape_of) at all in
    let answer = rw (judge.opening, judge.options, judge.tokens, judge.text, c.as_slice-tokens.ensures.value) at
    c.in_ok-answer.ensures.answer in
    rw (sym c.self.view_is) (λ t. match.1 (whole.0 (answer.0 t)), λ m. answer.1 (whole.1 (match.0 m)))

pub returns-clause-most : goal.returns-clause-most
unfolding table_within
returns-clause-most g c =
    let judge = c.new-judge.ensures in
    let most = rw (judge.text, c.as_slice-tokens.ensures.value) at c.in_ok-answer.ensures.most in
    rw (sym c.self.view_is) (omega (arith, most, c.asked.ensures, judge.count))

pub returns-clause-least : goal.returns-clause-least
unfolding table_within
returns-clause-least g c = λ yes.
    let judge = c.new-judge.ensures in
    let least = rw judge.text at (c.in_ok-answer.ensures.least yes) in
    omega (arith, least, c.asked.ensures, judge.count)
