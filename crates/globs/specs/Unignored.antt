-- The path of a record, and which records are copied.
use Rattle.std.specs.Prelude.{◌≡◌, ◌-◌, ◌⊎◌, ℕ, List, [], Option, Some, None, Bool, ◌&&◌, ◌||◌, not, if◌then◌else◌}
use Rattle.std.specs.Prelude.{length, take, drop, codes, bytes_eq}
use Rattle.std.specs.Str.{is_utf8}
use Rattle.glob_console.specs.Outcomes.{IsRefused}
use Rattle.glob_text.specs.Characters.{dot, slash}
use Rattle.glob_text.specs.Text.{Text, has}
use Rattle.glob_text.specs.Pieces.{is_empty}
use Rattle.glob_rules.specs.Deciding.{is_ignored}
use Rattle.glob_rules.specs.Lists.{Ignores}
use Rattle.globs.specs.Copying.{Copies, Input, IsUnread}
use Rattle.globs.specs.Ignoring.{HasRules}

-- without a `./` at the start
abbrev pub without_here : Text → Text
without_here bytes = if has bytes 0 dot && has bytes 1 slash then drop 2 bytes else bytes

-- the last byte is `/`
abbrev pub has_slash : Text → Bool
has_slash path = has path (length path - 1) slash

-- the record marks its path as a directory
abbrev pub is_directory : Text → Bool
is_directory bytes = has_slash (without_here bytes)

-- the path of a record, without the `./` at its start and the `/` at its end
abbrev pub path_of : Text → Text
path_of bytes =
    if is_directory bytes then take (length (without_here bytes) - 1) (without_here bytes) else without_here bytes

-- the path of a record, if it is UTF-8
abbrev pub text_path : Text → Option Text
text_path bytes = if is_utf8 (path_of bytes) then Some (path_of bytes) else None

-- the path names the list's own directory
abbrev pub is_here : Text → Bool
is_here path = is_empty path || bytes_eq path (codes ".")

-- the path is UTF-8, and names the list's own directory or is not ignored by the list
unfoldable pub is_selected : Ignores → (bytes : Text) → Bool
is_selected list bytes =
    is_utf8 (path_of bytes)
    && (is_here (path_of bytes) || not (is_ignored list (path_of bytes) (is_directory bytes)))

-- The records that the list does not ignore were copied. The status is the status of the copy, or 2. No clause says
-- when it becomes 2; tests show that it does if a path is not UTF-8.
unfoldable pub CopiesList : (list : Ignores) → (end : ℕ) → Input → (old new : Option (List ℕ)) → (status : ℕ) → Type 0
CopiesList list end input old new status =
    (copied : ℕ) × Copies end (is_selected list) input old new copied × ((status ≡ copied) ⊎ (status ≡ 2))

-- Either the list is refused before any input is read or anything is written, or the records that the rules of the
-- files with these names do not ignore were copied.
unfoldable pub CopiesUnignored : {W : Type 0} → (contents : W → Option (List ℕ)) → (holds : Text → Option Text)
    → (end : ℕ) → (names : List Text) → Input → (old new : W) → (status : ℕ) → Type 0
CopiesUnignored contents holds end names input old new status =
    (IsUnread input × IsRefused old new status)
    ⊎ ((list : Ignores) × HasRules holds names [] list × CopiesList list end input (contents old) (contents new) status)
