use Rattle.std.proofs.Common.{chars, sym, ◌∙◌}
use Rattle.glob_pattern.proofs.MatchingLemmas.TokensOf.{tokens_of-HasTokens, HasTokens-tokens_of}
use Rattle.glob_pattern.proofs.pattern.tokens.tokens_in.Goals as goal

pub returns-clause-tokens : goal.returns-clause-tokens
returns-clause-tokens g c =
    c.tokens.ensures
    ∙ sym (tokens_of-HasTokens (chars c.args.pattern.now) c.pattern.inside.compiled (rw c.pattern.view_is at c.pattern.invariant))

pub returns-clause-read : goal.returns-clause-read
returns-clause-read g c =
    HasTokens-tokens_of (chars c.args.pattern.now) c.pattern.inside.compiled (rw c.pattern.view_is at c.pattern.invariant)
