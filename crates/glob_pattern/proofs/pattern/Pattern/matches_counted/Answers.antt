use Rattle.std.proofs.Common.{length, chars, arith}
use Rattle.std.proofs.Math.Nat.{mul-le-mul_right}
use Rattle.std.proofs.lemmas.Result.{IfOk-weaker}
use Rattle.glob_pattern.proofs.GrammarLemmas.Accepted.{length-HasTokens}
use Rattle.glob_pattern.proofs.MatchingLemmas.Tokens.{Matches-iff_tokens, tokens_are_few}
use Rattle.glob_pattern.proofs.pattern.Pattern.matches_counted.Goals as goal

pub returns-clause-answer : goal.returns-clause-answer
returns-clause-answer g c =
    let iff = Matches-iff_tokens c.args.options (chars c.args.self.now) (chars c.args.str.now) c.self.inside.compiled
    (rw c.self.view_is at c.self.invariant) in
    IfOk-weaker c.matches_counted.result _ _ (λ counted h. (λ t. iff.0 (h.0 t), λ m. h.1 (iff.1 m))) c.matches_counted.ensures.answer

pub returns-clause-most : goal.returns-clause-most
returns-clause-most g c =
    let few = length-HasTokens (chars c.args.self.now) c.self.inside.compiled (rw c.self.view_is at c.self.invariant) in
    let bound = mul-le-mul_right (length (chars c.args.str.now)) few in
    IfOk-weaker c.matches_counted.result _ _ (λ counted h. omega (arith, h, bound)) c.matches_counted.ensures.most

pub returns-clause-short : goal.returns-clause-short
returns-clause-short g c = λ short. c.matches_counted.ensures.short (tokens_are_few (chars c.args.self.now)
    c.self.inside.compiled (rw c.self.view_is at c.self.invariant) short)
