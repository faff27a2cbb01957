-- There are no more keys than have been looked at.
use Rattle.std.proofs.Common.{◌≤◌}
use Rattle.glob_set.proofs.rarest.count_some.Given as goal

abbrev pub invariant-loop-key : goal.invariant-loop-key
invariant-loop-key l = l.count ≤ l.key-index
