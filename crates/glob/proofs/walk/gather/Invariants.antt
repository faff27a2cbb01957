use Rattle.glob.proofs.Gathering.{Gathers}
use Rattle.glob.proofs.walk.gather.Given as goal

abbrev pub invariant-loop-item : goal.invariant-loop-item
invariant-loop-item g l = Gathers g.T.Tree.asks g.T.Tree.tells l.initial.paths l.items.items l.paths
