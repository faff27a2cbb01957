-- Which paths of a walk are written, and with which status.
use Rattle.std.specs.Prelude.{◌≡◌, ℕ, ◌<◌, ◌≤◌, ◌⊎◌, if◌then◌else◌, Bool, true, false, List, [], ◌∷◌, Option, ⊤, codes}
use Rattle.std.specs.List.{filter}
use Rattle.std.specs.Io.KnownBytes.{Appends}
use Rattle.glob_lines.specs.Lines.{AppendsFront, with_ends}
use Rattle.glob_pattern.specs.Words.{refusal_words}
use Rattle.glob_walk.specs.Walks.{Mark, Item, Found, Unread, items, cost, front, paths, IsCutShort, RefusesWith}
use Rattle.glob_text.specs.Text.{Text}
use Rattle.glob_walk.specs.declared.ending.End.{End}
use Rattle.glob_walk.specs.declared.ending.End.TheVariants as end
use Rattle.glob_walk.specs.Components.{walk_fault}
use Rattle.glob_console.specs.declared.find.fault.FindFault.{FindFault}
use Rattle.glob_console.specs.declared.find.fault.FindFault.TheVariants.{Pattern, Memory, Write}
use Rattle.glob_console.specs.declared.find.findings.Findings.{Findings}

-- whether there is a path
abbrev pub has_any : List Text → Bool
has_any [] = false
has_any (path ∷ paths) = true

-- whether one of the items is an error
abbrev pub has_unread : List Item → Bool
has_unread [] = false
has_unread (Found path ∷ is) = has_unread is
has_unread (Unread path kind ∷ is) = true

-- every path is wanted
abbrev pub every : Text → Bool
every path = true

-- the wanted paths among the items
abbrev pub wanted_paths : (wanted : Text → Bool) → List Item → List Text
wanted_paths wanted is = filter wanted (paths is)

-- the exit status of a complete walk: 2 if an item is an error, else 0 if there is a wanted path, else 1
abbrev pub found_status : (wanted : Text → Bool) → List Item → ℕ
found_status wanted is = if has_unread is then 2 else (if has_any (wanted_paths wanted is) then 0 else 1)

-- The items that a walk with this limit gave, by how it ended: all items of the listing; the items before the first
-- unit of work that does not fit; or, if an allocation failed, the items that come with the charged units, of which the
-- last may be missing.
abbrev pub GaveItems : (listing : List Mark) → (limit : ℕ) → End → List Item → Type 0
GaveItems ms limit end.Done given = (cost ms ≤ limit) × (given ≡ items ms)
GaveItems ms limit end.Limit given = (limit < cost ms) × (given ≡ items (front limit ms))
GaveItems ms limit end.Memory given = (spent : ℕ) × (spent ≤ limit) × IsCutShort ms spent given

-- The wanted paths among the items of the walk were written, a record each, in order, even if there were errors.
abbrev pub FindsPaths : (end : ℕ) → (wanted : Text → Bool) → (listing : List Mark) → (limit : ℕ)
    → (old new : Option (List ℕ)) → Findings → Type 0
FindsPaths end wanted ms limit old new findings =
    (given : List Item)
    × GaveItems ms limit findings.end given
    × Appends old new (with_ends end (wanted_paths wanted given))
    × (findings.has_path ≡ has_any (wanted_paths wanted given))
    × (findings.has_error ≡ has_unread given)

-- the first n bytes of the records of all wanted paths of the listing were written, for some n
abbrev pub FindsSomeBytes : (end : ℕ) → (wanted : Text → Bool) → (listing : List Mark)
    → (old new : Option (List ℕ)) → Type 0
FindsSomeBytes end wanted ms old new = AppendsFront old new (with_ends end (wanted_paths wanted (items ms)))

-- the status is 2, or it is the status of the complete walk, for which the limit is enough
unfoldable pub IsFindStatus : (wanted : Text → Bool) → (listing : List Mark) → (limit : ℕ) → (status : ℕ) → Type 0
IsFindStatus wanted ms limit status =
    (status ≡ 2) ⊎ ((cost ms ≤ limit) × (status ≡ found_status wanted (items ms)))

-- the status of the findings
abbrev pub status_of : Findings → ℕ
status_of findings = elim findings.end [
  | end.Done ↦ if findings.has_error then 2 else (if findings.has_path then 0 else 1)
  | end.Limit ↦ 2
  | end.Memory ↦ 2
]

-- What was written, and the status. Either all wanted paths that were found were written, with the status of the
-- findings; or the status is 2, and only the first bytes of the records of the listing's wanted paths were written.
unfoldable pub WritesFound : (end : ℕ) → (wanted : Text → Bool) → (listing : List Mark) → (limit : ℕ)
    → (old new : Option (List ℕ)) → (status : ℕ) → Type 0
WritesFound end wanted ms limit old new status =
    ((findings : Findings) × FindsPaths end wanted ms limit old new findings × (status ≡ status_of findings))
    ⊎ ((status ≡ 2) × FindsSomeBytes end wanted ms old new)

-- the pattern was refused
abbrev pub IsRefusal : FindFault → Type 0
IsRefusal (Pattern refusal) = ⊤
IsRefusal Memory = ⊥
IsRefusal (Write error) = ⊥

-- a line could not be written, or an allocation failed
abbrev pub IsWriting : FindFault → Type 0
IsWriting (Pattern refusal) = ⊥
IsWriting Memory = ⊤
IsWriting (Write error) = ⊤

-- the fault is the refusal of the pattern, or a failed allocation or write
abbrev pub IsFindFault : (pattern : Text) → FindFault → Type 0
IsFindFault pattern (Pattern refusal) = RefusesWith (walk_fault pattern) refusal
IsFindFault pattern Memory = ⊤
IsFindFault pattern (Write error) = ⊤

-- The message of a fault. If there is no memory for its line, the line says `out of memory`; a failed write may have no
-- line.
abbrev pub find_fault_words : FindFault → Text
find_fault_words (Pattern refusal) = refusal_words refusal
find_fault_words Memory = codes "out of memory"
find_fault_words (Write error) = codes "writing failed"
