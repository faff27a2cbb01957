use Rattle.std.proofs.Common.{map}
use Rattle.std.specs.Path.{path_buf_bytes}
use Rattle.glob.proofs.FoundPaths.{FindsSoFar}
use Rattle.glob_examples.proofs.copy.found_paths.Given as goal

abbrev pub invariant-loop-item : goal.invariant-loop-item
invariant-loop-item g l = FindsSoFar g.T.Tree.tells l.initial.item-iterator l.item-iterator (map path_buf_bytes l.files.items)
