-- The requests of a command line.
use Rattle.std.specs.Prelude.{ℕ}
use Rattle.glob.specs.Text.{Text}
use Rattle.glob.specs.Types.{MatchOptions}
use Rattle.glob_run.specs.declared.command.Command.{Command}
use Rattle.glob_run.specs.declared.command.Command.TheVariants.{Match, Escape, Find}

-- the lines that a pattern matches; the pattern that matches a text literally; the paths that a pattern finds within a
-- limit, in units of the walk
pub data Request : Type 0 where
  Lines : MatchOptions → (pattern : Text) → Request
  Escaped : (text : Text) → Request
  Paths : MatchOptions → (limit : ℕ) → (pattern : Text) → Request

-- the request of a parsed command line
abbrev pub request_of : Command → Request
request_of (Match options pattern) = Lines options pattern.now
request_of (Escape text) = Escaped text.now
request_of (Find options limit pattern) = Paths options limit pattern.now
