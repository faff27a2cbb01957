-- A call that is not too large is not refused as too large.
use Rattle.std.proofs.Common.{◌≡◌, ℕ, ◌<◌, ◌↔◌, false, Result, Ok, Err, IsTrue}
use Rattle.std.specs.Result.{IsErrAnd}
use Rattle.std.proofs.lemmas.Bool.{false≢true}
use Rattle.glob_captures.specs.declared.error.CapturesError.{CapturesError}
use Rattle.glob_captures.specs.declared.error.CapturesError.TheVariants.{TooLarge, Memory}
use Rattle.glob_captures.specs.declared.steps.TheConstants.{MOST_STEPS}

module _ {T : Type 0} (steps : ℕ) (few : IsTrue false ↔ (MOST_STEPS < steps)) where
  pub large_at_memory : (r : Result T CapturesError) → IsErrAnd r (λ e. e ≡ Memory) → (r ≡ Err TooLarge) ↔ (MOST_STEPS < steps)
  large_at_memory (Ok x) memory = absurd memory
  large_at_memory (Err e) memory = (λ same. absurd (cc), λ many. absurd (false≢true (few.1 many)))

  pub large_at_value : (value : T) → ◌≡◌ {A = Result T CapturesError} (Ok value) (Err TooLarge) ↔ (MOST_STEPS < steps)
  large_at_value value = (λ same. absurd (cc), λ many. absurd (false≢true (few.1 many)))
