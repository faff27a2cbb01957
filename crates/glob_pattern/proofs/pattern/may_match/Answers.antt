use Rattle.std.proofs.Common.{chars}
use Rattle.glob_pattern.proofs.MatchingLemmas.Tokens.{Matches-iff_tokens}
use Rattle.glob_pattern.proofs.pattern.may_match.Goals as goal

pub returns : goal.returns
returns g c = λ utf8 m.
    let iff = Matches-iff_tokens c.args.options (chars c.args.pattern.now) (chars c.args.bytes.now)
    c.pattern.inside.compiled (rw c.pattern.view_is at c.pattern.invariant) in
    c.may_match.ensures utf8 (iff.1 m)
