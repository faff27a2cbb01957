-- Which rule decides about each path by git, as `globs ignore --git -v` writes it.
use Rattle.std.specs.Prelude.{◌≡◌, ◌⊎◌, ℕ, ◌==◌, Bool, true, false, List, [], Option, Some, None, codes, is_some, if◌then◌else◌}
use Rattle.std.specs.Prelude.{slice_index_or, unwrap_or}
use Rattle.std.specs.Str.{is_utf8}
use Rattle.glob_console.specs.Outcomes.{IsRefused}
use Rattle.glob_lines.specs.Lines.{line_feed, with_ends}
use Rattle.glob_rules.specs.Lists.{AreTaken, rules_of}
use Rattle.glob_rules.specs.declared.rule.Rule.{Rule}
use Rattle.glob_search.specs.Asking.{First, File, Last, Origin}
use Rattle.glob_text.specs.Text.{Text}
use Rattle.glob_tree.specs.Content.{Key}
use Rattle.globs.specs.ByGit.{CopiesByGit, GitRules, Here, decision_by, git_rules}
use Rattle.globs.specs.Copying.{Input, IsUnread, WritesSelected}
use Rattle.globs.specs.Ignoring.{AreRead}
use Rattle.globs.specs.Naming as naming
use Rattle.globs.specs.Naming.{Place, file_of, files_of, named_record, place_at, place_in}
use Rattle.globs.specs.Unignored.{is_directory, path_of}
use Rattle.globs.specs.declared.options.Settings.{Settings}

-- the text of the file at a path; empty if there is none
abbrev pub text_at : (known : Text → Option Text) → (path : Text) → Text
text_at known path = unwrap_or (known path) []

-- the place of the rule on the line with this number in the file at a path
abbrev pub place_from : (known : Text → Option Text) → (path : Text) → (line : ℕ) → Place
place_from known path line = place_at (file_of path (text_at known path)) line

-- The place of a rule, by where its list is from. A rule of the first list, which ignores each `.git`, has the place
-- `--git`, since no file has it. The next list has the lines of the files of the command line.
abbrev pub place_by : GitRules → List naming.File → Origin → (line : ℕ) → Place
place_by r files (First index) line =
    if index == 0 then place_at (file_of (codes "--git") (codes ".git")) line else place_in files line
place_by r files (File path) line = place_from r.known path line
place_by r files (Last index) line = place_from r.known (slice_index_or r.above index []) line

-- the rule that decides about the path of a record, if that is UTF-8
unfoldable pub decided_by_git : GitRules → (bytes : Text) → Option (Origin × Rule)
decided_by_git r bytes =
    if is_utf8 (path_of bytes) then decision_by r (path_of bytes) (is_directory bytes) else None

-- there is such a rule
abbrev pub is_decided_by_git : GitRules → (bytes : Text) → Bool
is_decided_by_git r bytes = is_some (decided_by_git r bytes)

-- the record for the place of a rule and a path
abbrev pub record_by : (end : ℕ) → List naming.File → GitRules → (bytes : Text) → Option (Origin × Rule) → Text
record_by end files r bytes None = []
record_by end files r bytes (Some d) = named_record end (place_by r files d.0 d.1.line) bytes

-- the record for the rule that decides about a path
abbrev pub named_by_git : (end : ℕ) → List naming.File → GitRules → (bytes : Text) → Text
named_by_git end files r bytes = record_by end files r bytes (decided_by_git r bytes)

-- For each path that a rule decides about, the place of the rule and the path were written. The status is the status of
-- this writing, or 2, as in `CopiesAround`.
unfoldable pub NamesAround : GitRules → (end : ℕ) → List naming.File → Input → (old new : Option (List ℕ))
    → (status : ℕ) → Type 0
NamesAround r end files input old new status =
    (written : ℕ) × WritesSelected end (is_decided_by_git r) (named_by_git end files r) input old new written
    × ((status ≡ written) ⊎ (status ≡ 2))

-- Either nothing was read or written, after a fault, or the rules of these files and of git were named, if the files of
-- git are known.
unfoldable pub NamesByGit : {W : Type 0} → (contents : W → Option (List ℕ)) → Here → (holds : Text → Option Text)
    → (end : ℕ) → (names : List Text) → Input → (old new : W) → (status : ℕ) → Type 0
NamesByGit contents here holds end names input old new status =
    (IsUnread input × IsRefused old new status)
    ⊎ ((texts : List Text) × AreRead holds names texts × AreTaken (with_ends line_feed texts)
    × ((known : Text → Option Text) (place : Key) → here.texts ≡ Some known → here.above ≡ Some place
    → NamesAround (git_rules names (rules_of (with_ends line_feed texts)) place known) end (files_of names texts) input
    (contents old) (contents new) status))

-- with `--git`, `ignore` names rules if the settings ask for that, and copies paths if they do not
unfoldable pub IgnoresByGit : {W : Type 0} → (contents : W → Option (List ℕ)) → Here → (holds : Text → Option Text)
    → Settings → (names : List Text) → Input → (old new : W) → (status : ℕ) → Type 0
IgnoresByGit contents here holds settings names input old new status =
    (settings.names_rules ≡ true → NamesByGit contents here holds settings.end names input old new status)
    × (settings.names_rules ≡ false → CopiesByGit contents here holds settings.end names input old new status)
