-- What the options of a command line set.
use Rattle.std.specs.Prelude.{List}
use Rattle.glob_text.specs.Text.{Text}
use Rattle.globs.specs.declared.options.Settings.{Settings}

-- The settings; the ignore files, and the single rules, which come after the rules of the files; the names of the
-- ignore files in each directory; and the start directory of a search, which is empty for the current one.
pub record Chosen : Type 0 where
  pub settings : Settings
  pub files : List Text
  pub rules : List Text
  pub rule_files : List Text
  pub directory : Text
