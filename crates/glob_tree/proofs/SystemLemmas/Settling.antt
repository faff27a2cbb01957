-- What is settled by the answer of a lookup.
use Rattle.std.proofs.Common.{◌≡◌, ◌≢◌, ◌⊎◌, Bool, true, false, cond, List, [], ◌∷◌, Option, Some, None, Result, Ok, Err}
use Rattle.std.proofs.Common.{refl, ap, sym, subst, ◌∙◌}
use Rattle.std.specs.Prelude.{IfErr, IfOk, IfSome, OnOk}
use Rattle.std.specs.IoError.{error_kind}
use Rattle.std.specs.Result.{IsErrAnd}
use Rattle.std.specs.declared.fs.attrs.Metadata.{Metadata}
use Rattle.std.specs.declared.io.Error.{Error}
use Rattle.std.specs.declared.io.ErrorKind.TheVariants.{OutOfMemory, NotFound, NotADirectory}
use Rattle.glob_text.specs.Text.{Text}
use Rattle.glob_tree.specs.FileSystems.{FileSystem, Found, Directory, IsLookupError, IsNumberAnswer, IsStatAnswer}
use Rattle.glob_tree.specs.FileSystems.{is_lost, is_target_lost, lstat_found, stat_found}
use Rattle.glob_tree.specs.Private.Looking.{IsFoundAs}
use Rattle.glob_tree.specs.Strays.{and_then}
use Rattle.glob_tree.specs.declared.directory_id.DirectoryId.{DirectoryId}
use Rattle.glob_tree.proofs.StraysLemmas.{and_then-nil}
use Rattle.glob_tree.proofs.SystemLemmas.Losing.{found_seen, target_seen}

-- what holds anyway holds after a success
pub on_ok : {T E P : Type 0} (r : Result T E) → P → OnOk r P
on_ok (Ok x) is = is
on_ok (Err e) is = tt

module _ {T E : Type 0} (answer : Result T Error) (r : Result (Option T) E)
    (some : IfOk r (λ found. IfSome found (λ one. answer ≡ Ok one)))
    (none : IfOk r (λ found. found ≡ None → IsErrAnd answer (λ e. error_kind e ≢ OutOfMemory))) where
  -- what was received, if errors say whether the path is lost
  pub settled_exactly : (lost : Bool) (path : Text) (old new : Option (List Text)) → IfErr answer (IsLookupError lost)
      → IfOk answer (λ one. lost ≡ false) → OnOk answer (new ≡ old)
      → IfErr answer (λ e. (error_kind e ≡ NotFound) ⊎ (error_kind e ≡ NotADirectory) → new ≡ old)
      → IfErr answer (λ e. error_kind e ≢ NotFound → error_kind e ≢ NotADirectory → OnOk r (new ≡ and_then old (path ∷ [])))
      → OnOk r (new ≡ and_then old (cond lost (path ∷ []) []))
  settled_exactly lost path old new fails found known missing unsettled = by_result r some none unsettled
    where
      Received : Type 0
      Received = new ≡ and_then old (cond lost (path ∷ []) [])

      nothing : lost ≡ false → new ≡ old → Received
      nothing is same = same ∙ sym (and_then-nil old) ∙ ap (λ b. and_then old (cond b (path ∷ []) [])) (sym is)

      by_lost : (b : Bool) → lost ≡ b → (e : Error) → error_kind e ≢ OutOfMemory → IsLookupError b e
          → ((error_kind e ≡ NotFound) ⊎ (error_kind e ≡ NotADirectory) → new ≡ old)
          → (error_kind e ≢ NotFound → error_kind e ≢ NotADirectory → new ≡ and_then old (path ∷ [])) → Received
      by_lost true is e apart fails missing unsettled =
          let both = fails apart in
          unsettled both.0 both.1 ∙ ap (λ b. and_then old (cond b (path ∷ []) [])) (sym is)
      by_lost false is e apart fails missing unsettled = nothing is (missing (fails apart))

      by_answer : (a : Result T Error) → IsErrAnd a (λ e. error_kind e ≢ OutOfMemory) → IfErr a (IsLookupError lost)
          → IfErr a (λ e. (error_kind e ≡ NotFound) ⊎ (error_kind e ≡ NotADirectory) → new ≡ old)
          → IfErr a (λ e. error_kind e ≢ NotFound → error_kind e ≢ NotADirectory → new ≡ and_then old (path ∷ [])) → Received
      by_answer (Ok one) apart fails missing unsettled = absurd apart
      by_answer (Err e) apart fails missing unsettled = by_lost lost refl e apart fails missing unsettled

      by_result : (s : Result (Option T) E) → IfOk s (λ found. IfSome found (λ one. answer ≡ Ok one))
          → IfOk s (λ found. found ≡ None → IsErrAnd answer (λ e. error_kind e ≢ OutOfMemory))
          → IfErr answer (λ e. error_kind e ≢ NotFound → error_kind e ≢ NotADirectory → OnOk s (new ≡ and_then old (path ∷ [])))
          → OnOk s Received
      by_result (Err e) some none unsettled = tt
      by_result (Ok None) some none unsettled = by_answer answer (none refl) fails missing unsettled
      by_result (Ok (Some one)) some none unsettled =
          nothing (subst (λ a. IfOk a (λ one. lost ≡ false)) some found) (subst (λ a. OnOk a (new ≡ old)) some known)

-- what is found
pub settled_found : {E : Type 0} (found : Option Found) (answer : Result Metadata Error) → IsStatAnswer found answer
    → (r : Result (Option Metadata) E) → IfOk r (λ metadata. IfSome metadata (λ one. answer ≡ Ok one))
    → IfOk r (λ metadata. metadata ≡ None → IsErrAnd answer (λ e. error_kind e ≢ OutOfMemory))
    → IfOk r (λ metadata. IsFoundAs found metadata)
settled_found found answer is (Err e) some none = tt
settled_found found answer is (Ok (Some m)) some none = by_found found (subst (IsStatAnswer found) some is)
  where
    by_found : (o : Option Found) → IsStatAnswer o (Ok m) → IsFoundAs o (Some m)
    by_found None h = absurd h
    by_found (Some t) h = h
settled_found found answer is (Ok None) some none = by_answer answer is (none refl)
  where
    by_answer : (a : Result Metadata Error) → IsStatAnswer found a → IsErrAnd a (λ e. error_kind e ≢ OutOfMemory) → IsFoundAs found None
    by_answer (Ok m) is apart = absurd apart
    by_answer (Err e) is apart = subst (λ o. IsFoundAs o None) (sym (is apart)) tt

-- what is found is known
pub answer_seen : (f : FileSystem) (path : Text) (answer : Result Metadata Error) → IsStatAnswer (lstat_found f path) answer
    → IfOk answer (λ one. is_lost f path ≡ false)
answer_seen f path (Err e) is = tt
answer_seen f path (Ok m) is = by_found (lstat_found f path) refl is
  where
    by_found : (o : Option Found) → lstat_found f path ≡ o → IsStatAnswer o (Ok m) → is_lost f path ≡ false
    by_found None at h = absurd h
    by_found (Some t) at h = found_seen f path t at

pub number_seen : (f : FileSystem) (path : Text) (number : DirectoryId) (answer : Result (Option DirectoryId) Error)
    → IsNumberAnswer (stat_found f path) number answer → IfOk answer (λ one. is_target_lost f path ≡ false)
number_seen f path number (Err e) is = tt
number_seen f path number (Ok None) is = by_found (stat_found f path) refl is.0
  where
    by_found : (o : Option Found) → stat_found f path ≡ o → o ≢ None → is_target_lost f path ≡ false
    by_found None at some = absurd (some refl)
    by_found (Some t) at some = target_seen f path t at
number_seen f path number (Ok (Some one)) is = target_seen f path Directory is.0
