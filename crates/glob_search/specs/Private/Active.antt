-- The ignore rules that apply in a directory.
use Rattle.std.specs.Prelude.{◌≡◌, ℕ, ◌+◌, Bool, List, [], ◌∷◌, ◌++◌, length, map, drop, fold, Option, None}
use Rattle.std.specs.List.{join_with_byte}
use Rattle.std.specs.Option.{option_or}
use Rattle.glob_text.specs.Characters.{slash}
use Rattle.glob_text.specs.Text.{Text}
use Rattle.glob_tree.specs.Content.{Key}
use Rattle.glob_rules.specs.Lists.{Ignores}
use Rattle.glob_search.specs.Aims.{outer_of}
use Rattle.glob_search.specs.Kept.{Rules}
use Rattle.glob_search.specs.Searching.{Aim, said}
use Rattle.glob_search.specs.declared.active.FileRules.{FileRules}
use Rattle.glob_search.specs.declared.active.ActiveRules.{ActiveRules}

-- each list, with the number of bytes that are cut off a path for it
abbrev pub active_lists : {A : Type 0} → List (FileRules A) → List (ℕ × Ignores)
active_lists files = map (λ f. (f.above, f.list)) files

-- lists for paths with this many bytes cut off
abbrev pub after : (above : ℕ) → List Ignores → List (ℕ × Ignores)
after above lists = map (λ l. (above, l)) lists

-- how many bytes of a path belong to the directory and the separator after it
abbrev pub above_of : (directory : Key) → ℕ
above_of [] = 0
above_of (n ∷ ns) = length (join_with_byte slash (n ∷ ns)) + 1

-- the lists of a directory's own files
abbrev pub lists_in : Aim → (directory : Key) → List (ℕ × Ignores)
lists_in a directory = after (above_of directory) (a.rules_in directory)

-- These lists, and then the lists of each directory on the way down these names, except for the last directory. Deeper
-- lists come later.
abbrev pub lists_down : List (ℕ × Ignores) → Aim → (directory names : Key) → List (ℕ × Ignores)
lists_down lists a directory [] = lists
lists_down lists a directory (n ∷ ns) =
    lists_down (lists ++ lists_in a directory) a (directory ++ n ∷ []) ns

-- the lists of files that apply in a directory before its own files are read
abbrev pub lists_above : Aim → (directory : Key) → List (ℕ × Ignores)
lists_above a directory = lists_down [] a [] directory

-- the same after its own files are read
abbrev pub lists_at : Aim → (directory : Key) → List (ℕ × Ignores)
lists_at a directory = lists_above a directory ++ lists_in a directory

-- what the last list with a rule for the path says: whether it is ignored
abbrev pub active_said : List (ℕ × Ignores) → (path : Text) → (is_directory : Bool) → Option Bool
active_said lists path d =
    fold (λ before l. option_or (said l.1 (drop l.0 path) d) before) None lists

-- the rules that are active, as contracts see them
abbrev pub rules_here : {A : Type 0} → ActiveRules A → Rules
rules_here h = record {
  first = active_lists h.first.items;
  files = active_lists h.files.items;
  last = outer_of h.last.items;
}

-- only the lists of files may differ
pub record AreSameLists {A : Type 0} (old new : ActiveRules A) : Type 0 where
  pub first : new.first ≡ old.first
  pub last : new.last ≡ old.last

-- these are exactly the lists that apply in the directory
pub record AreActive {A : Type 0} (a : Aim) (directory : Key) (h : ActiveRules A) : Type 0 where
  pub first : active_lists h.first.items ≡ after 0 a.first
  pub files : active_lists h.files.items ≡ lists_at a directory
  pub last : outer_of h.last.items ≡ a.last
