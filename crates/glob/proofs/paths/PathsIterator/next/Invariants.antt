use Rattle.std.proofs.Common.{◌-◌}
use Rattle.glob.proofs.Driving.{Drives}
use Rattle.glob.proofs.paths.PathsIterator.next.Given as goal

abbrev pub invariant-loop-item : goal.invariant-loop-item
invariant-loop-item g l = Drives g.T.Tree.asks g.T.Tree.tells l.fn.self l.self-inside.tree l.self-inside.machine

abbrev pub decreases-loop-item : goal.decreases-loop-item
decreases-loop-item g l = l.self-inside.machine.limit - l.self-inside.machine.spent
