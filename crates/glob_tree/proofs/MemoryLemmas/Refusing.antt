-- What `ok_or` and `?` return after a search that found nothing.
use Rattle.std.proofs.Common.{◌≡◌, ℕ, sym, ap, subst, ◌∙◌, Option, Some, None, Result, Ok, Err, IsErrAnd, IfErr, MatchOption, MatchResult}
use Rattle.std.specs.Option.{ok_or}

-- the error of a result; `e` if it has none
abbrev pub error_or : {T E : Type 0} → E → Result T E → E
error_or e (Ok x) = e
error_or e (Err other) = other

-- if nothing was found, the error is the given one
pub error_is : {E : Type 0} (found : Option ℕ) (e x : E) → ok_or found e ≡ Err x → found ≡ None → x ≡ e
error_is found e x is none = sym (ap (error_or e) is) ∙ ap (λ f. error_or e (ok_or f e)) none

-- what holds for the error holds for the result that has it
pub refused_by : {T E : Type 0} (P : T → Type 0) (Q : E → Type 0) (answer : Result T E) (e : E)
    → IsErrAnd answer (λ x. x ≡ e) → Q e → MatchResult answer P Q
refused_by P Q (Ok y) e is so = elim is [ ]
refused_by P Q (Err x) e is so = subst Q (sym is) so

pub fails_by : {T E : Type 0} (Q : E → Type 0) (answer : Result T E) (e : E) → IsErrAnd answer (λ x. x ≡ e) → Q e → IfErr answer Q
fails_by Q (Ok y) e is so = elim is [ ]
fails_by Q (Err x) e is so = subst Q (sym is) so

-- what holds for the search holds for the result that `ok_or` makes from it
pub answered : {E N : Type 0} {S : ℕ → Type 0} (P : ℕ → Type 0) (Q : E → Type 0) (found : Option ℕ) (e : E)
    → MatchOption found N S → (N → Q e) → ((n : ℕ) → S n → P n) → MatchResult (ok_or found e) P Q
answered P Q None e is refused some = refused is
answered P Q (Some n) e is refused some = some n is
