-- The results of parsing a command line.
use Rattle.std.specs.Prelude.{List, Option}
use Rattle.glob_text.specs.Text.{Text}
use Rattle.globs.specs.Chosen.{Chosen}
use Rattle.globs.specs.declared.name.Name.{Name}
use Rattle.globs.specs.declared.usage.Why.{Why}

-- the words after a command: its options and operands; its help page; or a wrong word
pub data Reading : Type 0 where
  Asks : Chosen → (operands : List Text) → Reading
  Page : Reading
  Wrong : Why → (word : Text) → Reading

-- all words: a command to run; the help page of a command, or of the program; the version; or a wrong word, after a
-- command or in its place
pub data Request : Type 0 where
  Runs : Name → Chosen → (operands : List Text) → Request
  Helps : Option Name → Request
  VersionLine : Request
  Refused : Option Name → Why → (word : Text) → Request
