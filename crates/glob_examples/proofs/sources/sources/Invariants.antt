use Rattle.std.proofs.Common.{map}
use Rattle.std.specs.Path.{path_buf_bytes}
use Rattle.glob.proofs.FoundPaths.{AreFound}
use Rattle.glob_examples.proofs.sources.sources.Given as goal

abbrev pub invariant-loop-item : goal.invariant-loop-item
invariant-loop-item g l = AreFound l.yielded (map path_buf_bytes l.files.items)
