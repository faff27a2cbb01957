use Rattle.std.proofs.lemmas.Bool.{false≢true}
use Rattle.glob_pattern.proofs.CallerLemmas.{no_match_by_fault}
use Rattle.globs.proofs.explain.instead.is_match.Goals as goal

-- a text with a fault matches nothing
pub returns-in-Err-Syntax : goal.returns-in-Err-Syntax
returns-in-Err-Syntax g c =
    let fault = rw c.in-Err-Syntax.field-0-is at c.in-Err-Syntax.ensures.refused in
    (λ answer. absurd (false≢true answer), λ matched. absurd (no_match_by_fault _ _ _ _ fault matched))
