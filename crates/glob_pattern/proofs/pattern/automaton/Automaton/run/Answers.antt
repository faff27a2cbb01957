use Rattle.std.proofs.Common.{chars, refl, arith}
use Rattle.std.proofs.lemmas.List.{length-take-le}
use Rattle.glob_pattern.specs.Private.TextTable.{table_within}
use Rattle.glob_pattern.proofs.BitLemmas.LowestBits.{lowest_set}
use Rattle.glob_pattern.proofs.MatchingLemmas.Parts.{SplitsPart-asked}
use Rattle.glob_pattern.proofs.MatchingLemmas.Running.{CanRun-part, SplitsPart-at_once}
use Rattle.glob_pattern.proofs.pattern.automaton.Automaton.run.Goals as goal

pub returns-then-accepting-ne0-clause-answer : goal.returns-then-accepting-ne0-clause-answer
returns-then-accepting-ne0-clause-answer g c =
    let (lt, set, none) = lowest_set c.accepting-accepting.result (omega (arith, c.if-accepting-ne0.true)) (omega arith) in
    let splits = SplitsPart-at_once c.args.opening c.args.options c.args.tokens.now c.args.end _ (chars c.args.text.now)
    (omega (arith, c.if-end-eq1.true)) (c.accepting-accepting.ensures.rest c.args.tokens.now c.args.end c.requires c.args.opening
    (chars c.args.text.now) _ set) in
    (λ _. splits, λ _. refl)

pub new-judge-requires : goal.new-judge-requires
new-judge-requires g c =
    let judge = c.new-one_by_one.ensures in
    let long = length-take-le c.args.end c.args.tokens.now c.requires.within in
    record {
      enough = rw judge.tokens (omega (arith, long, c.div_ceil.ensures));
      masks = rw judge.tokens (c.requires.masked c.div_ceil.result (omega (arith, c.div_ceil.ensures)) (omega (arith, c.div_ceil.ensures)));
      start = rw judge.text judge.start;
    }

pub decide-requires : goal.decide-requires
decide-requires g c =
    let judge = c.new-one_by_one.ensures in
    let masked = c.new-judge.ensures in
    rw (masked, judge.opening, judge.options, judge.tokens, judge.text, judge.start, judge.count)
    (CanRun-part c.args.opening c.args.options c.args.tokens.now c.args.text.now c.words.result.now _ 0 0 c.words.ensures.words
    (c.accepting-accepting.ensures.rest c.args.tokens.now c.args.end c.requires c.args.opening (chars c.args.text.now)) refl refl
    (omega arith) (omega arith))

pub returns-clause-answer : goal.returns-clause-answer
unfolding table_within
returns-clause-answer g c =
    let judge = c.new-one_by_one.ensures in
    let asked = SplitsPart-asked c.args.options c.args.opening c.args.tokens.now c.args.end (chars c.args.text.now) in
    let h = rw (c.new-judge.ensures, judge.opening, judge.options, judge.tokens, judge.text) at c.in_ok-answer.ensures.answer in
    (λ t. asked.0 (h.0 t), λ s. h.1 (asked.1 s))

pub returns-clause-most : goal.returns-clause-most
unfolding table_within
returns-clause-most g c =
    let most = rw (c.new-judge.ensures, c.new-one_by_one.ensures.text) at c.in_ok-answer.ensures.most in
    omega (arith, most, c.asked.ensures, c.new-one_by_one.ensures.count)

pub returns-then-accepting-ne0-clause-least : goal.returns-then-accepting-ne0-clause-least
returns-then-accepting-ne0-clause-least g c = λ _ ruled. absurd (omega
    (arith, c.if-accepting-ne0.true, c.accepting-accepting.ensures.ruled ruled))

pub returns-clause-least : goal.returns-clause-least
unfolding table_within
returns-clause-least g c = λ yes ruled.
    let least = rw (c.new-judge.ensures, c.new-one_by_one.ensures.text) at
    (c.in_ok-answer.ensures.least yes (c.accepting-accepting.ensures.ruled ruled)) in
    omega (arith, least, c.asked.ensures)
