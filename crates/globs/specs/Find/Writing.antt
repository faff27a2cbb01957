-- What is written about the gifts of a search.
use Rattle.std.specs.Prelude.{◌≡◌, ◌≢◌, ℕ, Bool, true, false, if◌then◌else◌, List, [], ◌∷◌, ◌++◌, Option, Result, Ok}
use Rattle.std.specs.Prelude.{Err, filter_map, map, string_bytes}
use Rattle.std.specs.Io.KnownBytes.{Appends}
use Rattle.glob_console.specs.FoundPaths.{has_any}
use Rattle.glob_lines.specs.Lines.{AppendsFront, ended_record, with_ends}
use Rattle.glob_search.specs.Aims.{path_of}
use Rattle.glob_search.specs.Laws.{found_names}
use Rattle.glob_search.specs.Visiting.{Gift, Found, Unread}
use Rattle.glob_search.specs.declared.fault.SearchFault.{SearchFault}
use Rattle.glob_search.specs.declared.fault.SearchFault.TheVariants as fault
use Rattle.glob_search.specs.declared.found.Found.{Found as FoundPath}
use Rattle.glob_text.specs.Text.{Text}
use Rattle.globs.specs.declared.find.searching.Findings.{Findings}

-- the paths that are found, after the lead of their patterns
abbrev pub found_paths : (lead : Text) → List Gift → List Text
found_paths lead gifts = map (λ names. lead ++ path_of names) (filter_map found_names gifts)

-- a directory cannot be listed
abbrev pub has_unread : List Gift → Bool
has_unread [] = false
has_unread (Found names ∷ gifts) = has_unread gifts
has_unread (Unread names kind ∷ gifts) = true

-- the status: 2 if a directory cannot be listed, else 0 if there is a path, else 1
abbrev pub search_status : List Gift → ℕ
search_status gifts = if has_unread gifts then 2 else (if has_any (found_paths [] gifts) then 0 else 1)

-- With a status other than 2, exactly the found paths were written, a record each, in order, and the status says
-- whether there is a path. With the status 2, the first bytes of these records were written, perhaps all.
unfoldable pub WritesGifts : (lead : Text) → (end : ℕ) → List Gift → (old new : Option (List ℕ)) → (status : ℕ) → Type 0
WritesGifts lead end gifts old new status =
    (status ≢ 2 → Appends old new (with_ends end (found_paths lead gifts)) × (status ≡ search_status gifts))
    × (status ≡ 2 → AppendsFront old new (with_ends end (found_paths lead gifts)))

-- the status of the findings
abbrev pub status_of : Findings → ℕ
status_of findings = if findings.has_fault then 2 else (if findings.has_path then 0 else 1)

-- the record of what a search gives; faults, and paths that are not kept, have no record
abbrev pub item_record : {A : Type 0} → (keeps : Text → Bool) → (lead : Text) → (end : ℕ)
    → Result (FoundPath A) (SearchFault A) → List ℕ
item_record keeps lead end (Ok found) =
    if keeps (string_bytes found.path) then ended_record end (lead ++ string_bytes found.path) else []
item_record keeps lead end (Err e) = []

-- the findings with one more item
abbrev pub noting : {A : Type 0} → (keeps : Text → Bool) → Findings → Result (FoundPath A) (SearchFault A) → Findings
noting keeps findings (Ok found) =
    if keeps (string_bytes found.path) then record findings { has_path = true } else findings
noting keeps findings (Err e) = record findings { has_fault = true }

-- the search ends with this fault
abbrev pub is_end : {A : Type 0} → SearchFault A → Bool
is_end (fault.Unread path e) = false
is_end (fault.UnreadRules path e) = false
is_end (fault.RefusedRules path refusals) = false
is_end fault.Limit = true
is_end fault.Memory = true

-- the search ends with this item
abbrev pub is_last : {A : Type 0} → Result (FoundPath A) (SearchFault A) → Bool
is_last (Ok found) = false
is_last (Err e) = is_end e
