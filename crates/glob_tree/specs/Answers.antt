-- What a tree with known content must answer.
use Rattle.std.specs.Prelude.{◌≡◌, ◌≢◌, ℕ, Bool, true, false, List, map, vec_len, Contains, IsPermutation, Result, Ok, Err}
use Rattle.std.specs.Prelude.{Vec, ⊤}
use Rattle.std.specs.declared.io.Error.{Error}
use Rattle.std.specs.declared.io.ErrorKind.{ErrorKind}
use Rattle.std.specs.declared.io.ErrorKind.TheVariants.{OutOfMemory}
use Rattle.std.specs.IoError.{error_kind}
use Rattle.glob_text.specs.Text.{Text}
pub use Rattle.glob_tree.specs.Content.{IsTold}
use Rattle.glob_tree.specs.Content.{DirEntry, ListAnswer, Entries, Fails, NoDirectory}
use Rattle.glob_tree.specs.declared.tree.Entry.{Entry}
use Rattle.glob_tree.specs.declared.tree.ListError.{ListError}
use Rattle.glob_tree.specs.declared.tree.ListError.TheVariants.{Read, Memory}

-- the entries of a listing as pairs: a name, and whether it is reported as a directory
abbrev pub entries_of : {A : Type 0} → List (Entry A) → List DirEntry
entries_of entries = map (λ e. (e.name, e.is_dir)) entries

-- how many entries a listing returned
abbrev pub entry_count : {A E : Type 0} → Result (Vec (Entry A) A) E → ℕ
entry_count (Ok entries) = vec_len entries
entry_count (Err e) = 0

-- a listing may return these entries: the directory's, each once and in any order; if there is no directory, any
-- entries
abbrev pub IsListAnswer : ListAnswer → List DirEntry → Type 0
IsListAnswer (Entries entries) answer = IsPermutation entries answer
IsListAnswer (Fails kind) answer = ⊥
IsListAnswer NoDirectory answer = ⊤

-- the names of entries
abbrev pub names_of : List DirEntry → List Text
names_of entries = map (λ e. e.0) entries

-- a listing may return these names: the directory's, each once and in any order; if there is no directory, any names
abbrev pub AreListedNames : ListAnswer → List Text → Type 0
AreListedNames (Entries entries) names = IsPermutation (names_of entries) names
AreListedNames (Fails kind) names = ⊥
AreListedNames NoDirectory names = ⊤

-- each entry reported as a directory is a directory
abbrev pub AreDirectories : (answer entries : List DirEntry) → Type 0
AreDirectories answer entries = (e : DirEntry) → Contains answer e → e.1 ≡ true → Contains entries e

-- A listing of names may return these entries: each name of the directory once and in any order, with only directories
-- reported as directories; if there is no directory, any entries.
abbrev pub IsNamesAnswer : ListAnswer → List DirEntry → Type 0
IsNamesAnswer (Entries entries) answer =
    IsPermutation (names_of entries) (names_of answer) × AreDirectories answer entries
IsNamesAnswer (Fails kind) answer = ⊥
IsNamesAnswer NoDirectory answer = ⊤

-- A listing may return these entries, with their kinds if they are asked for.
abbrev pub IsEntriesAnswer : (kinds : Bool) → ListAnswer → List DirEntry → Type 0
IsEntriesAnswer true said answer = IsListAnswer said answer
IsEntriesAnswer false said answer = IsNamesAnswer said answer

-- a listing may fail with this kind of error: the directory's; if there is no directory, any kind
abbrev pub IsListFault : ListAnswer → ErrorKind → Type 0
IsListFault (Entries entries) kind = ⊥
IsListFault (Fails wanted) kind = kind ≡ wanted
IsListFault NoDirectory kind = ⊤

abbrev pub IsListError : ListAnswer → ListError → Type 0
IsListError answer (Read e) = IsListFault answer (error_kind e)
IsListError answer Memory = ⊤

-- the error of a listing, if the system returns this error
abbrev pub IsListErrorOf : Error → ListError → Type 0
IsListErrorOf e made = (error_kind e ≡ OutOfMemory → made ≡ Memory) × (error_kind e ≢ OutOfMemory → made ≡ Read e)
