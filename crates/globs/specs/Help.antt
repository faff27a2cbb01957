-- The pages of help.
use Rattle.std.specs.Prelude.{Option, None, Some}
use Rattle.glob_text.specs.Text.{Text}
use Rattle.globs.specs.declared.help.TheConstants.{HELP, FIND, MATCH, IGNORE, EXPLAIN, ESCAPE}
use Rattle.globs.specs.declared.name.Name.{Name}
use Rattle.globs.specs.declared.name.Name.TheVariants.{Find, Match, Ignore, Explain, Escape}

-- the page of a command, or of the whole program
abbrev pub page_of : Option Name → Text
page_of None = HELP.now
page_of (Some Find) = FIND.now
page_of (Some Match) = MATCH.now
page_of (Some Ignore) = IGNORE.now
page_of (Some Explain) = EXPLAIN.now
page_of (Some Escape) = ESCAPE.now
