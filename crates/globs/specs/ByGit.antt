-- Which paths `globs ignore --git` copies: those that a search by the same rules does not leave out.
use Rattle.std.specs.Prelude.{◌≡◌, ◌⊎◌, ℕ, Bool, true, ◌&&◌, ◌||◌, not, if◌then◌else◌, List, [], Option, Some, None}
use Rattle.std.specs.Prelude.{map, string_bytes}
use Rattle.std.specs.List.{list_all}
use Rattle.std.specs.Str.{is_utf8}
use Rattle.glob_console.specs.Outcomes.{IsRefused}
use Rattle.glob_rules.specs.Lists.{Ignores}
use Rattle.glob_rules.specs.declared.rule.Rule.{Rule}
use Rattle.glob_search.specs.Asking.{Agrees, Origin, is_left_out, rule_about}
use Rattle.glob_search.specs.Searching.{Aim}
use Rattle.glob_text.specs.Pieces.{pieces}
use Rattle.glob_text.specs.Text.{Text}
use Rattle.glob_tree.specs.Content.{Key}
use Rattle.glob_tree.specs.Paths.{is_proper}
use Rattle.globs.specs.Chosen.{Chosen}
use Rattle.globs.specs.Copying.{Copies, Input, IsUnread}
use Rattle.globs.specs.Find.Above.{files_above, is_start_ignored, outer_decision, start_rule}
use Rattle.globs.specs.Find.Aiming.{aim, git_names}
use Rattle.globs.specs.Ignoring.{HasRules}
use Rattle.globs.specs.Options.{new_options, new_settings}
use Rattle.globs.specs.Unignored.{is_directory, is_here, path_of}
use Rattle.globs.specs.declared.ignore.around.Around.{Around}
use Rattle.globs.specs.declared.name.Name.TheVariants.{Find}

-- the options of `find --git` with an `--ignore` for each of these files
abbrev pub git_options : (names : List Text) → Chosen
git_options names = record (new_options Find) { settings = record (new_settings Find) { is_git = true }; files = names }

-- What such a search is asked for. `list` has the rules of the files, and `place` the names from the top of a repository
-- down to the start.
abbrev pub git_aim : (names : List Text) → (list : Ignores) → (place : Key) → (known : Text → Option Text) → Aim
git_aim names list place known = aim (git_options names) list [] place known

-- The rules of git around a start: what they leave out, and what is known of their files; whether they ignore the start,
-- and by which rule; and the files above the start, and the one for the whole repository, in the order of their lists.
pub record GitRules : Type 0 where
  pub aim : Aim
  pub known : Text → Option Text
  pub is_start_ignored : Bool
  pub start_rule : Option (Origin × Rule)
  pub above : List Text

-- those that these files of rules override
abbrev pub git_rules : (names : List Text) → (list : Ignores) → (place : Key) → (known : Text → Option Text) → GitRules
git_rules names list place known = record {
  aim = git_aim names list place known;
  known = known;
  is_start_ignored = is_start_ignored known place;
  start_rule = start_rule known place;
  above = files_above known place;
}

-- These are the rules, and the files have the texts that are known.
pub record IsAround {X A : Type 0} (texts : X → Option (Text → Option Text)) (r : GitRules) (s : Around X A) : Type 0 where
  pub known : texts s.texts ≡ Some r.known
  pub files : s.rules.files ≡ git_names true
  pub agrees : Agrees r.aim r.known s.rules
  pub ignored : s.is_ignored ≡ r.is_start_ignored
  pub rule : outer_decision s.ignoring ≡ r.start_rule
  pub above : map string_bytes s.above.items ≡ r.above

-- the path of the start itself, or of something in it
abbrev pub is_within : (path : Text) → Bool
is_within path = is_here path || list_all is_proper (pieces path)

-- The path is ignored. If the start is, then so is everything within it.
abbrev pub ignores : GitRules → (path : Text) → (is_directory : Bool) → Bool
ignores r path d = if r.is_start_ignored then is_within path else is_left_out r.aim path d

-- the path of the record is UTF-8 and not ignored
unfoldable pub is_unignored : GitRules → (bytes : Text) → Bool
is_unignored r bytes = is_utf8 (path_of bytes) && not (ignores r (path_of bytes) (is_directory bytes))

-- the rule that decides about a path, and where its list is from
abbrev pub decision_by : GitRules → (path : Text) → (is_directory : Bool) → Option (Origin × Rule)
decision_by r path d =
    if r.is_start_ignored then (if is_within path then r.start_rule else None)
    else rule_about r.aim r.known (git_names true) path d

-- The records that the rules do not ignore were copied. The status is the status of the copy, or 2. No clause says when
-- it becomes 2; tests show that it does if a path is not UTF-8, or a file of rules could not be read.
unfoldable pub CopiesAround : GitRules → (end : ℕ) → Input → (old new : Option (List ℕ)) → (status : ℕ) → Type 0
CopiesAround r end input old new status =
    (copied : ℕ) × Copies end (is_unignored r) input old new copied × ((status ≡ copied) ⊎ (status ≡ 2))

-- what is known about the current directory: the texts of files from there on, and the names from the top of its
-- repository down to it
pub record Here : Type 0 where
  pub texts : Option (Text → Option Text)
  pub above : Option Key

-- Either nothing was read or written, after a fault, or the records that neither the rules of these files nor those of
-- git ignore were copied, if the files of git are known.
unfoldable pub CopiesByGit : {W : Type 0} → (contents : W → Option (List ℕ)) → Here → (holds : Text → Option Text)
    → (end : ℕ) → (names : List Text) → Input → (old new : W) → (status : ℕ) → Type 0
CopiesByGit contents here holds end names input old new status =
    (IsUnread input × IsRefused old new status)
    ⊎ ((list : Ignores) × HasRules holds names [] list
    × ((known : Text → Option Text) (place : Key) → here.texts ≡ Some known → here.above ≡ Some place
    → CopiesAround (git_rules names list place known) end input (contents old) (contents new) status))
