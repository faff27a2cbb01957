use Rattle.std.proofs.Common.{map}
use Rattle.std.specs.Path.{path_buf_bytes}
use Rattle.glob.specs.Lines.{AreKept}
use Rattle.glob_examples.specs.Copying.{Copies}
use Rattle.glob_examples.proofs.copy.copied.Given as goal

abbrev pub invariant-loop-path : goal.invariant-loop-path
invariant-loop-path g l = AreKept (Copies l.rules) (map path_buf_bytes l.yielded) (map path_buf_bytes l.files.items)
