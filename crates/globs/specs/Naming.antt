-- Which rule decides about each path of the input, as `globs ignore -v` writes it.
use Rattle.std.specs.Prelude.{◌≡◌, ◌-◌, ◌⊎◌, ℕ, nat_le, List, [], ◌∷◌, ◌++◌, Option, Some, None, Bool, true, false}
use Rattle.std.specs.Prelude.{◌&&◌, ◌==◌, not, if◌then◌else◌, is_some, length, slice_index_or, decimal}
use Rattle.std.specs.List.{slice_split}
use Rattle.std.specs.Str.{is_utf8}
use Rattle.glob_console.specs.Outcomes.{IsRefused}
use Rattle.glob_lines.specs.Lines.{line_feed, with_ends}
use Rattle.glob_rules.specs.Deciding.{deciding_rule}
use Rattle.glob_rules.specs.Lines.{kept_line}
use Rattle.glob_rules.specs.Lists.{AreTaken, Ignores, rules_of}
use Rattle.glob_rules.specs.declared.rule.Rule.{Rule}
use Rattle.glob_text.specs.Text.{Text}
use Rattle.globs.specs.Copying.{Input, IsUnread, WritesSelected}
use Rattle.globs.specs.Ignoring.{AreRead}
use Rattle.globs.specs.Unignored.{CopiesUnignored, is_directory, is_here, path_of}
use Rattle.globs.specs.declared.options.Settings.{Settings}

-- an ignore file: its name, and its lines
pub record File : Type 0 where
  pub name : Text
  pub lines : List Text

-- the lines of a text
abbrev pub lines_of : Text → List Text
lines_of text = slice_split (λ c. c == line_feed) text

-- the file with this name and text
abbrev pub file_of : (name text : Text) → File
file_of name text = record { name = name; lines = lines_of text }

-- the files with these names and texts
abbrev pub files_of : (names texts : List Text) → List File
files_of [] texts = []
files_of (name ∷ names) [] = []
files_of (name ∷ names) (text ∷ texts) = file_of name text ∷ files_of names texts

-- where a rule is: its file, the number of its line there, counted from 1, and the rule as it is written
pub record Place : Type 0 where
  pub file : Text
  pub line : ℕ
  pub rule : Text

-- the place of the rule on the line with this number
abbrev pub place_at : File → (line : ℕ) → Place
place_at file line = record { file = file.name; line = line; rule = kept_line (slice_index_or file.lines (line - 1) []) }

-- the place of a rule whose line has this number among the lines of all files, one file after another
abbrev pub place_in : List File → (line : ℕ) → Place
place_in [] line = record { file = []; line = line; rule = [] }
place_in (file ∷ files) line =
    if nat_le line (length file.lines) then place_at file line else place_in files (line - length file.lines)

-- a text and the byte after it
abbrev pub field : Text → (after : ℕ) → Text
field text after = text ++ after ∷ []

-- the byte between two parts of a record with this end: a NUL, if the record ends in one
abbrev pub between : (end byte : ℕ) → ℕ
between end byte = if end == 0 then 0 else byte

-- the record for a path: a place and the path, with colons and a tab between them
abbrev pub named_record : (end : ℕ) → Place → (path : Text) → Text
named_record end place path =
    field place.file (between end 58)
    ++ (field (decimal place.line) (between end 58) ++ (field place.rule (between end 9) ++ field path end))

-- the rule that decides about the path of a record, if that is UTF-8 and not the list's own directory
unfoldable pub deciding_of : Ignores → (bytes : Text) → Option Rule
deciding_of list bytes =
    if is_utf8 (path_of bytes) && not (is_here (path_of bytes))
    then deciding_rule list (path_of bytes) (is_directory bytes) else None

-- there is such a rule
abbrev pub is_decided : Ignores → (bytes : Text) → Bool
is_decided list bytes = is_some (deciding_of list bytes)

-- the record for the place of a rule and a path
abbrev pub record_of : (end : ℕ) → List File → (bytes : Text) → Option Rule → Text
record_of end files bytes None = []
record_of end files bytes (Some rule) = named_record end (place_in files rule.line) bytes

-- the record for the rule that decides about a path
abbrev pub named_of : (end : ℕ) → List File → Ignores → (bytes : Text) → Text
named_of end files list bytes = record_of end files bytes (deciding_of list bytes)

-- For each path that a rule decides about, the place of the rule and the path were written. The status is the status of
-- this writing, or 2. No clause says when it becomes 2; tests show that it does if a path is not UTF-8.
unfoldable pub NamesList : (end : ℕ) → List File → Ignores → Input → (old new : Option (List ℕ)) → (status : ℕ) → Type 0
NamesList end files list input old new status =
    (written : ℕ) × WritesSelected end (is_decided list) (named_of end files list) input old new written
    × ((status ≡ written) ⊎ (status ≡ 2))

-- Either the files with these names are refused before any input is read or anything is written, or their rules were
-- named.
unfoldable pub NamesRules : {W : Type 0} → (contents : W → Option (List ℕ)) → (holds : Text → Option Text)
    → (end : ℕ) → (names : List Text) → Input → (old new : W) → (status : ℕ) → Type 0
NamesRules contents holds end names input old new status =
    (IsUnread input × IsRefused old new status)
    ⊎ ((texts : List Text) × AreRead holds names texts × AreTaken (with_ends line_feed texts)
    × NamesList end (files_of names texts) (rules_of (with_ends line_feed texts)) input
    (contents old) (contents new) status)

-- without `--git`, `ignore` names rules if the settings ask for that, and copies paths if they do not
unfoldable pub IgnoresByFiles : {W : Type 0} → (contents : W → Option (List ℕ)) → (holds : Text → Option Text) → Settings
    → (names : List Text) → Input → (old new : W) → (status : ℕ) → Type 0
IgnoresByFiles contents holds settings names input old new status =
    (settings.names_rules ≡ true → NamesRules contents holds settings.end names input old new status)
    × (settings.names_rules ≡ false → CopiesUnignored contents holds settings.end names input old new status)
