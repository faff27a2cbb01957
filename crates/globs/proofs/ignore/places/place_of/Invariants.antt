-- The line is a line of the other files, counted without the lines of the files so far.
use Rattle.std.proofs.Common.{◌≡◌, drop}
use Rattle.globs.specs.Naming.{place_in}
use Rattle.globs.proofs.ignore.places.place_of.Given as goal

abbrev pub invariant-loop-file : goal.invariant-loop-file
invariant-loop-file g l = place_in (drop l.file-index l.files) l.left ≡ place_in l.files l.line
