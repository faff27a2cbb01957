-- How a search learns the entries of a directory.
use Rattle.std.specs.Prelude.{◌≡◌, List, [], ◌∷◌, ◌++◌, reverse, filter_map, Contains, Option, None, Some, option_map}
use Rattle.std.specs.Prelude.{Bool, Result, Ok, Err, Vec, string_bytes, ⊤}
use Rattle.std.specs.Cmp.Lexicographic.{slice_cmp}
use Rattle.std.specs.IoError.{error_kind}
use Rattle.std.specs.List.{All}
use Rattle.std.specs.Option.{ForSome}
use Rattle.std.specs.Ordering.{nat_cmp}
use Rattle.std.specs.declared.cmp.Ordering.TheVariants.{Less}
use Rattle.glob_text.specs.Text.{Text}
use Rattle.glob_tree.specs.Answers.{IsListAnswer, IsNamesAnswer, entries_of, names_of}
use Rattle.glob_tree.specs.Content.{Content, DirEntry, Key, ListAnswer, children, is_dir, kind_at, sorted_entries}
use Rattle.glob_tree.specs.declared.kind.Kind.{Kind}
use Rattle.glob_tree.specs.declared.kind.Kind.TheVariants.{Dir, Shut}
use Rattle.glob_tree.specs.declared.tree.Entry.{Entry}
use Rattle.glob_search.specs.Searching.{Aim, alive}
use Rattle.glob_search.specs.Private.Nodes.{AreNames}
use Rattle.glob_search.specs.declared.fault.SearchFault.{SearchFault}
use Rattle.glob_search.specs.declared.fault.SearchFault.TheVariants as fault
use Rattle.glob_search.specs.declared.frame.Source.{Source}
use Rattle.glob_search.specs.declared.frame.Source.TheVariants.{LookedUp, Listed, Named}

-- whether an entry is a directory, if that is known
abbrev pub known_kind : {A : Type 0} → Source → Entry A → Option Bool
known_kind LookedUp e = Some e.is_dir
known_kind Listed e = Some e.is_dir
known_kind Named e = None

-- the entry is in the directory of these names, and has its kind, if that is known
pub record IsEntry {A : Type 0} (c : Content) (names : Key) (source : Source) (e : Entry A) : Type 0 where
  pub kind : Kind
  pub held : kind_at c (c.current ++ (names ++ e.name ∷ [])) ≡ Some kind
  pub known : ForSome (known_kind source e) (λ d. d ≡ is_dir kind)

-- the names in a directory, descending
abbrev pub names_down : Content → (names : Key) → List Text
names_down c names = reverse (names_of (sorted_entries (children c (c.current ++ names))))

-- the entry with this name in a directory, if there is one
abbrev pub looked : Content → (names : Key) → Text → Option DirEntry
looked c names n = option_map (λ kind. (n, is_dir kind)) (kind_at c (c.current ++ (names ++ n ∷ [])))

-- the names by which something goes on were looked up, and these entries exist, descending
pub record AreLookedUp (c : Content) (a : Aim) (names : Key) (entries : List DirEntry) : Type 0 where
  pub texts : List Text
  pub all : AreNames texts (alive a names)
  pub seen : entries ≡ filter_map (looked c names) (reverse texts)

-- a listing may return these entries, with or without their kinds
abbrev pub IsSourceAnswer : Source → ListAnswer → List DirEntry → Type 0
IsSourceAnswer Named said answer = IsNamesAnswer said answer
IsSourceAnswer other said answer = IsListAnswer said answer

-- the entries of a directory that can be listed, descending
pub record AreListed {A : Type 0} (c : Content) (names : Key) (source : Source) (entries : List (Entry A)) : Type 0 where
  pub kind : kind_at c (c.current ++ names) ≡ Some Dir
  pub order : names_of (entries_of entries) ≡ names_down c names
  pub each : All (IsEntry c names source) entries

-- The directory was listed: with all its entries, or with the fault if it cannot be listed.
abbrev pub IsListed : {A : Type 0} → Content → (names : Key) → Source → (path : Text)
    → Result (Vec (Entry A) A) (SearchFault A) → Type 0
IsListed c names source path (Ok entries) = AreListed c names source entries.items
IsListed c names source path (Err (fault.Unread text e)) =
    (string_bytes text ≡ path) × (kind_at c (c.current ++ names) ≡ Some (Shut (error_kind e)))
IsListed c names source path (Err (fault.UnreadRules text e)) = ⊥
IsListed c names source path (Err (fault.RefusedRules text refusals)) = ⊥
IsListed c names source path (Err fault.Limit) = ⊤
IsListed c names source path (Err fault.Memory) = ⊤

-- each name is less than the names before it, so each comes once
abbrev pub AreFalling : {A : Type 0} → List (Entry A) → Type 0
AreFalling [] = ⊤
AreFalling {A} (e ∷ es) =
    ((f : Entry A) → Contains es f → slice_cmp nat_cmp f.name e.name ≡ Less) × AreFalling es
