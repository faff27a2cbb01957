-- The rarest so far is one of the keys.
use Rattle.std.proofs.Common.{IfSome, Contains}
use Rattle.glob_set.proofs.rarest.rarest.Given as goal

abbrev pub invariant-loop-key : goal.invariant-loop-key
invariant-loop-key l = IfSome l.rarest (Contains l.keys)
