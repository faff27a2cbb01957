-- The error of a listing, from the error of a system call.
use Rattle.std.proofs.Common.{◌≢◌, ℕ, Bool, true, false, List, Option, Some, None, Result, Ok, Err, refl, ap, sym, subst}
use Rattle.std.specs.Prelude.{IfErr, IsSome}
use Rattle.std.specs.Result.{IsErrAnd}
use Rattle.std.specs.IoError.{error_kind}
use Rattle.std.specs.declared.io.Error.{Error}
use Rattle.std.specs.declared.io.ErrorKind.{ErrorKind}
use Rattle.std.specs.declared.io.ErrorKind.TheVariants.{OutOfMemory}
use Rattle.std.proofs.lemmas.Bool.{both_ways}
use Rattle.glob_tree.specs.Answers.{IsListErrorOf}
use Rattle.glob_tree.specs.Directories.{ReadToEndMayFail, ReadMayFail}
use Rattle.glob_tree.specs.declared.tree.ListError.{ListError}
use Rattle.glob_tree.specs.declared.tree.ListError.TheVariants.{Read, Memory}

is_memory : ListError → Bool
is_memory (Read e) = false
is_memory Memory = true

read_or : Error → ListError → Error
read_or e (Read x) = x
read_or e Memory = e

-- what holds for each error of the system holds for the error of the listing
pub made_of : (Q : ListError → Type 0) (e : Error) → Q Memory → (error_kind e ≢ OutOfMemory → Q (Read e)) → (made : ListError)
    → IsListErrorOf e made → Q made
unfolding is_memory read_or
made_of Q e memory read Memory of = memory
made_of Q e memory read (Read x) of =
    let non : error_kind e ≢ OutOfMemory = λ oom. both_ways false refl (ap is_memory (of.0 oom)) in
    subst (λ y. Q (Read y)) (sym (ap (read_or e) (of.1 non))) (read non)

-- the error after a failed read
pub read_fault : {T : Type 0} (left : Option (List ℕ)) (fault : Option ErrorKind) (e : Error) → ReadMayFail left fault e → IsSome left
    → (r : Result T ListError) → IsErrAnd r (IsListErrorOf e) → IfErr r (λ made. ReadToEndMayFail fault made)
read_fault left fault e of known (Ok x) is = tt
read_fault None fault e of known (Err made) is = absurd (both_ways false refl known)
read_fault (Some bytes) fault e of known (Err made) is = made_of (ReadToEndMayFail fault) e tt (λ non. (of non).1) made is
