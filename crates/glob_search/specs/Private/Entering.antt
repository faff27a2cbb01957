-- Which directories are entered, for paths in any order.
use Rattle.std.specs.Prelude.{◌≡◌, ℕ, true, false, List, [], ◌∷◌, ◌++◌, length, map, Option, Some, None, IsTrue}
use Rattle.std.specs.Prelude.{string_bytes}
use Rattle.std.specs.Prelude.{String, fold, ◌==◌, if◌then◌else◌}
use Rattle.std.specs.List.{list_all, join_with_byte}
use Rattle.glob_text.specs.Characters.{slash}
use Rattle.glob_text.specs.Pieces.{pieces}
use Rattle.glob_text.specs.Text.{Text}
use Rattle.glob_tree.specs.Content.{Key}
use Rattle.glob_tree.specs.Paths.{is_proper}
use Rattle.glob_rules.specs.Lists.{Ignores}
use Rattle.glob_search.specs.Aims.{outer_of, rules_from}
use Rattle.glob_search.specs.Asking.{Reading, RulesState}
use Rattle.glob_search.specs.Searching.{Aim, is_ignored, is_kept, is_nil}
use Rattle.glob_search.specs.Private.Reading.{sources_in, sources_of}
use Rattle.glob_search.specs.Private.Active.{active_lists, after, lists_above, lists_at}
use Rattle.glob_search.specs.declared.directory.Directory.{Directory}
use Rattle.glob_search.specs.declared.directories.Directories.{Directories}

-- the names of ignore files
abbrev pub rule_names : {A : Type 0} → Directories A → List Text
rule_names s = map (λ file. string_bytes file) s.rule_files.items

-- the path of each directory, and how many lists come from above it
abbrev pub entered_of : {A : Type 0} → List (Directory A) → List (Text × ℕ)
entered_of entered = map (λ e. (string_bytes e.path, e.above)) entered

-- the path of the last directory; empty if there is none
abbrev pub last_text : {A : Type 0} → List (Directory A) → Text
last_text entered = fold (λ before e. string_bytes e.path) [] entered

-- the path in a directory that goes on by this rest
abbrev pub below_text : (directory rest : Text) → Text
below_text directory rest = if length directory == 0 then rest else directory ++ slash ∷ rest

-- that of one directory
abbrev pub entry_of : Aim → (directory : Key) → Text × ℕ
entry_of a directory = (join_with_byte slash directory, length (lists_above a directory))

-- those of a directory and each one on the way from it down the names
abbrev pub entered_down : Aim → (directory names : Key) → List (Text × ℕ)
entered_down a directory [] = entry_of a directory ∷ []
entered_down a directory (n ∷ ns) = entry_of a directory ∷ entered_down a (directory ++ n ∷ []) ns

-- those up to the last directory that is entered, if there is one
abbrev pub entered_to : Aim → (last : Option Key) → List (Text × ℕ)
entered_to a None = []
entered_to a (Some names) = entered_down a [] names

-- the lists of files that apply in the last directory
abbrev pub lists_to : Aim → (last : Option Key) → List (ℕ × Ignores)
lists_to a None = []
lists_to a (Some names) = lists_at a names

abbrev pub names_to : (last : Option Key) → Key
names_to None = []
names_to (Some names) = names

-- The rules of the aim in each directory are those of its files.
abbrev pub AreRulesIn : {A : Type 0} → Aim → (known : Text → Option Text) → Directories A → Type 0
AreRulesIn a known s = (directory : Key) → a.rules_in directory ≡ rules_from known (rule_names s) directory

-- the paths of the files of each directory on the way from one down the names, except for the last
abbrev pub sources_down : (in' : Key → List Text) → (directory names : Key) → List Text
sources_down in' directory [] = []
sources_down in' directory (n ∷ ns) = in' directory ++ sources_down in' (directory ++ n ∷ []) ns

-- those up to the last directory that is entered
abbrev pub sources_to : (in' : Key → List Text) → (last : Option Key) → List Text
sources_to in' None = []
sources_to in' (Some names) = sources_down in' [] names ++ in' names

-- This directory, if any, is the last one that is entered, and what was read is what it should be.
pub record IsAt {A : Type 0} (a : Aim) (known : Text → Option Text) (s : Directories A)
    (last : Option Key) : Type 0 where
  pub rules : AreRulesIn a known s
  pub first : active_lists s.held.active.first.items ≡ after 0 a.first
  pub outer : outer_of s.held.active.last.items ≡ a.last
  pub files : active_lists s.held.active.files.items ≡ lists_to a last
  pub sources : sources_of s.held ≡ sources_to (sources_in known (rule_names s)) last
  pub entered : entered_of s.entered.items ≡ entered_to a last
  pub proper : IsTrue (list_all is_proper (names_to last))
  pub kept : IsTrue (is_kept a [] (names_to last) true)

-- The rules are those of the aim, and some directory is the last.
pub record IsRead {A : Type 0} (a : Aim) (known : Text → Option Text) (s : Directories A) : Type 0 where
  pub last : Option Key
  pub at : IsAt a known s last

-- the names lead to a directory in the last one that is entered, or to the start before that is entered
abbrev pub IsNext : (last : Option Key) → (names : Key) → Type 0
IsNext None names = names ≡ []
IsNext (Some directory) names = (n : Text) × (names ≡ directory ++ n ∷ [])

-- the path leads on by the rest
pub record IsLeft {A : Type 0} (a : Aim) (known : Text → Option Text) (path rest : Text)
    (s : Directories A) : Type 0 where
  pub last : Option Key
  pub at : IsAt a known s last
  pub whole : pieces path ≡ names_to last ++ pieces rest

-- what is found on the way to a path with these names more
abbrev pub StopsAt : {A : Type 0} → Aim → (directory : Key) → Text → (more : Key) → Option (String A) → Type 0
StopsAt a directory n more None = more ≡ []
StopsAt a directory n more (Some path) =
    (is_nil more ≡ false)
    × (string_bytes path ≡ join_with_byte slash (directory ++ n ∷ []))
    × IsTrue (is_ignored a (directory ++ n ∷ []) true)

-- The directories above a path are entered, up to the first that is ignored.
pub record HasDescended {A : Type 0} (a : Aim) (known : Text → Option Text) (path : Text) (way : Option (String A))
    (s : Directories A) : Type 0 where
  pub directory : Key
  pub name : Text
  pub more : Key
  pub whole : pieces path ≡ directory ++ name ∷ more
  pub at : IsAt a known s (Some directory)
  pub stops : StopsAt a directory name more way

-- what contracts know of rules
abbrev pub Entering : Type 0 → Reading
Entering A = record { State = Directories A; Agrees = IsRead }

-- what contracts see of such rules
abbrev pub rules_state : {A : Type 0} → Directories A → RulesState (Entering A)
rules_state s = record { files = rule_names s; state = s }
