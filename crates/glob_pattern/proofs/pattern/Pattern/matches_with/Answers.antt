use Rattle.std.proofs.Common.{chars}
use Rattle.std.proofs.lemmas.Result.{IfOk-weaker}
use Rattle.glob_pattern.proofs.MatchingLemmas.Tokens.{Matches-iff_tokens, tokens_are_few}
use Rattle.glob_pattern.proofs.pattern.Pattern.matches_with.Goals as goal

pub returns-clause-answer : goal.returns-clause-answer
returns-clause-answer g c =
    let iff = Matches-iff_tokens c.args.options (chars c.args.self.now) (chars c.args.str.now) c.self.inside.compiled
    (rw c.self.view_is at c.self.invariant) in
    IfOk-weaker c.matches.result _ _ (λ yes h. (λ t. iff.0 (h.0 t), λ m. h.1 (iff.1 m))) c.matches.ensures.answer

pub returns-clause-short : goal.returns-clause-short
returns-clause-short g c = λ short. c.matches.ensures.short (tokens_are_few (chars c.args.self.now)
    c.self.inside.compiled (rw c.self.view_is at c.self.invariant) short)
