-- The options for matching a path.
use Rattle.std.specs.Prelude.{true}
use Rattle.glob.specs.Matching.Options.{new_options}
use Rattle.glob.specs.Types.{MatchOptions}

-- case-sensitive, with the separator rule
abbrev pub path_options : MatchOptions
path_options = record new_options { require_literal_separator = true }
