-- The outcome of a run: its status, and what its output gained.
use Rattle.std.specs.Prelude.{ℕ, Bool, List, [], Option}
use Rattle.glob_console.specs.Outcomes.{IsRefused, WritesText}
use Rattle.glob_text.specs.Text.{Text}
use Rattle.glob_tree.specs.Content.{Content, Key}
use Rattle.globs.specs.Copying.{Input, IsUnread}
use Rattle.globs.specs.Escaping.{WritesEscaped}
use Rattle.globs.specs.Explain.Outcomes.{Answers}
use Rattle.globs.specs.Find.Outcomes.{FindsUnignored}
use Rattle.globs.specs.Help.{page_of}
use Rattle.globs.specs.Matching.{CopiesMatches}
use Rattle.globs.specs.IgnoringPaths.{IgnoresPaths}
use Rattle.globs.specs.Reading.{Request, Runs, Helps, VersionLine, Refused}
use Rattle.globs.specs.declared.find.kinds.PathKind.{PathKind}
use Rattle.globs.specs.declared.help.TheConstants.{VERSION}
use Rattle.globs.specs.declared.name.Name.TheVariants.{Find, Match, Ignore, Explain, Escape}

-- What is known about a run's surroundings: the content of the disk from a place on, with symbolic links to directories
-- followed or not, the texts of its files, the kinds of its paths, and the names from the top of a repository down to
-- the place; the texts of files that are named; and the input.
pub record World : Type 0 where
  pub content : (follows : Bool) → (place : Text) → Option Content
  pub texts : (place : Text) → Option (Text → Option Text)
  pub kinds : (follows : Bool) → (place : Text) → Option (Text → PathKind)
  pub above : (place : Text) → Option Key
  pub holds : (path : Text) → Option Text
  pub input : Input

-- The run did what was asked. After a usage fault the status is 2, and the output is unchanged. Only `match` and
-- `ignore` read the input.
unfoldable pub Fulfils : {W : Type 0} → (contents : W → Option (List ℕ)) → World → Request → (old new : W)
    → (status : ℕ) → Type 0
Fulfils contents world (Runs Find o operands) old new status =
    IsUnread world.input
    × FindsUnignored contents (record {
      content = world.content o.settings.follows;
      texts = world.texts;
      kinds = world.kinds o.settings.follows;
      above = world.above;
    }) world.holds o operands old new status
Fulfils contents world (Runs Match o operands) old new status =
    CopiesMatches contents o.settings operands world.input old new status
Fulfils contents world (Runs Ignore o operands) old new status =
    IgnoresPaths contents (record { texts = world.texts []; above = world.above [] }) world.holds o.settings operands
    world.input old new status
Fulfils contents world (Runs Explain o operands) old new status =
    IsUnread world.input × Answers contents o.settings.options operands old new status
Fulfils contents world (Runs Escape o operands) old new status =
    IsUnread world.input × WritesEscaped o.settings.end operands (contents old) (contents new) status
Fulfils contents world (Helps name) old new status =
    IsUnread world.input × WritesText (page_of name) (contents old) (contents new) status
Fulfils contents world VersionLine old new status =
    IsUnread world.input × WritesText VERSION.now (contents old) (contents new) status
Fulfils contents world (Refused name why word) old new status = IsUnread world.input × IsRefused old new status
