-- Results that are passed on: what holds for the result of a call holds for the result that is made from it.
use Rattle.std.proofs.Common.{◌≡◌, Result, Ok, Err, false, subst}
use Rattle.std.proofs.lemmas.Bool.{false≢true}
use Rattle.std.specs.Result.{IsErrAnd, OnErr, is_ok}

-- the fault that an answer is
pub IsErrAnd-passed : {T E : Type 0} (r : Result T E) (e : E) (P : E → Type 0) → IsErrAnd r (λ d. d ≡ e) → IsErrAnd r P → P e
IsErrAnd-passed (Ok x) e P same holds = absurd holds
IsErrAnd-passed (Err d) e P same holds = subst P same holds

-- what holds at each fault holds at an answer that is one
pub OnErr-at_err : {T E : Type 0} (r : Result T E) {P : Type 0} → false ≡ is_ok r → OnErr r P → P
OnErr-at_err (Ok x) is p = absurd (false≢true is)
OnErr-at_err (Err e) is p = p
