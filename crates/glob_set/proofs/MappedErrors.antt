-- What `map_err` keeps of a call's result, and what it says of the new error.
use Rattle.std.proofs.Common.{◌≡◌, Result, Ok, Err, IfOk, IfErr, IsErrAnd, MatchResult}

-- the value is that of the call
pub IfOk-mapped : {T E D : Type 0} (r : Result T E) (s : Result T D) (Makes : E → D → Type 0) (P : T → Type 0)
    → MatchResult r (λ x. s ≡ Ok x) (λ e. IsErrAnd s (Makes e)) → IfOk r P → IfOk s P
IfOk-mapped (Ok x) s Makes P is so = rw is so
IfOk-mapped (Err e) (Ok x) Makes P is so = absurd is
IfOk-mapped (Err e) (Err d) Makes P is so = tt

-- the error is made from the call's error
pub IfErr-mapped : {T E D : Type 0} (r : Result T E) (s : Result T D) (Makes : E → D → Type 0) (P : E → Type 0) (Q : D → Type 0)
    → MatchResult r (λ x. s ≡ Ok x) (λ e. IsErrAnd s (Makes e)) → IfErr r P → ((e : E) (d : D) → P e → Makes e d → Q d) → IfErr s Q
IfErr-mapped (Ok x) s Makes P Q is so made = rw is tt
IfErr-mapped (Err e) (Ok x) Makes P Q is so made = absurd is
IfErr-mapped (Err e) (Err d) Makes P Q is so made = made e d so is
