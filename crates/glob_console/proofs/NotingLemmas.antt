-- What one more item changes in the findings of a walk.
use Rattle.std.proofs.Common.{◌≡◌, true, false, None, Some, Result, Ok, Err, refl, ap}
use Rattle.std.proofs.lemmas.Option.{same_Some}
use Rattle.std.specs.Prelude.{is_ok}
use Rattle.std.specs.declared.path.buf.PathBuf.{PathBuf}
use Rattle.glob_walk.specs.Walks.{Outcome, Gives, LimitAt, NoMemory, outcome, error_outcome, refusal_end}
use Rattle.glob_walk.specs.GlobErrors.{cause_of}
use Rattle.glob_walk.specs.declared.error.GlobCause.{GlobCause}
use Rattle.glob_walk.specs.declared.error.GlobCause.TheVariants as cause
use Rattle.glob_walk.specs.declared.error.GlobError.{GlobError}
use Rattle.glob_walk.specs.declared.ending.End.{End}
use Rattle.glob_walk.specs.declared.ending.End.TheVariants as end
use Rattle.glob_console.specs.declared.find.findings.Findings.{Findings}
use Rattle.glob_console.specs.Private.Writing.{noting}

-- how a refusal ends the walk
pub noting_end : (f : Findings) (o : Outcome) (e : End) → refusal_end o ≡ Some e → noting f o ≡ record f { end = e }
noting_end f (Gives item) e is = absurd (cc)
noting_end f (LimitAt path) e is = ap (λ x. record f { end = x }) (same_Some end.Limit e is)
noting_end f NoMemory e is = ap (λ x. record f { end = x }) (same_Some end.Memory e is)

-- the item of a path is a path
pub noting_path : {A : Type 0} (f : Findings) (item : Result (PathBuf A) (GlobError A)) → is_ok item ≡ true → noting f
    (outcome item) ≡ record f { has_path = true }
noting_path f (Ok path) is = refl
noting_path f (Err error) is = absurd (cc)

-- an error that is not a refusal is about a directory that could not be listed
pub noting_error : {A : Type 0} (f : Findings) (item : Result (PathBuf A) (GlobError A)) → is_ok item ≡ false
    → refusal_end (outcome item) ≡ None → noting f (outcome item) ≡ record f { has_error = true }
noting_error f (Ok path) is none = absurd (cc)
noting_error {A} f (Err error) is none = of_cause (cause_of error) none
  where
    of_cause : (k : GlobCause) → refusal_end (error_outcome k error) ≡ None → noting f (error_outcome k error) ≡ record
        f { has_error = true }
    of_cause cause.Read none = refl
    of_cause cause.Memory none = absurd (cc)
    of_cause cause.Limit none = absurd (cc)
