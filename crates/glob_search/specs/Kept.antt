-- What the rules that a search holds say of a path, over any tree.
use Rattle.std.specs.Prelude.{◌≡◌, ℕ, ◌+◌, nat_le, nat_lt, Bool, false, ◌&&◌, ◌||◌, if◌then◌else◌, List, [], Contains}
use Rattle.std.specs.Prelude.{length, drop, fold, map, Option, Some, None, unwrap_or, string_bytes}
use Rattle.std.specs.List.{All, slice_index}
use Rattle.std.specs.Option.{ForSome, option_or}
use Rattle.glob_text.specs.Text.{Text}
use Rattle.glob_rules.specs.Lists.{Ignores, rules_of}
use Rattle.glob_tree.specs.Paths.{child}
use Rattle.glob_search.specs.Searching.{outer_said, said}
use Rattle.glob_search.specs.declared.found.Found.{Found as FoundPath}

-- The lists that a search asks where it is: `first` overrides the lists of the ignore files on the way, which override
-- `last`, and later lists override earlier ones. The numbers say how many bytes at the start of a path a list does not
-- see; they belong to the directory of its file.
pub record Rules : Type 0 where
  pub first : List (ℕ × Ignores)
  pub files : List (ℕ × Ignores)
  pub last : List (Text × Ignores)

-- the lists of a search that has read no files
abbrev pub given_rules : (first : List Ignores) → (last : List (Text × Ignores)) → Rules
given_rules first last = record { first = map (λ l. (0, l)) first; files = []; last = last }

-- The rules of an ignore file with one of these names, if the texts of files are known. They see a path after the
-- directory of the file.
pub record IsOfFile (known : Text → Option Text) (files : List Text) (l : ℕ × Ignores) : Type 0 where
  pub directory : Text
  pub file : Text
  pub named : Contains files file
  pub text : Text
  pub held : known (child directory file) ≡ Some text
  pub rules : l.1 ≡ rules_of text
  pub below : l.0 + length file ≡ length (child directory file)

abbrev pub AreOfFiles : (known : Text → Option Text) → (files : List Text) → List (ℕ × Ignores) → Type 0
AreOfFiles known files lists = All (IsOfFile known files) lists

-- std's `IsCharBoundary`, computed: the path may be cut after this many bytes
abbrev pub is_boundary : (path : Text) → ℕ → Bool
is_boundary path n = nat_le n (length path) && (nat_lt (slice_index path n) 128 || nat_le 192 (slice_index path n))

-- the path without this many bytes, or the whole path if it is shorter or a character goes on after them
abbrev pub after_bytes : ℕ → (path : Text) → Text
after_bytes n path = if is_boundary path n then drop n path else path

-- what the last of the lists with a rule for the path says
abbrev pub said_after : List (ℕ × Ignores) → (path : Text) → (is_directory : Bool) → Option Bool
said_after lists path d = fold (λ before l. option_or (said l.1 (after_bytes l.0 path) d) before) None lists

-- the rules ignore the path
abbrev pub is_ignored_by : Rules → (path : Text) → (is_directory : Bool) → Bool
is_ignored_by r path d =
    unwrap_or (option_or (said_after r.first path d) (option_or (said_after r.files path d) (outer_said r.last path d))) false

-- The rules do not ignore what is found. If the search does not know whether it is a directory, they would ignore it in
-- neither case.
abbrev pub IsKept : {A : Type 0} → Rules → FoundPath A → Type 0
IsKept r found =
    (d : Bool) → ForSome found.is_dir (λ known. known ≡ d) → is_ignored_by r (string_bytes found.path) d ≡ false
