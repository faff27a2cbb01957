-- There is a count for each slot.
use Rattle.std.proofs.Common.{◌≡◌, length}
use Rattle.glob_set.proofs.rarest.counts_of.Given as goal

abbrev pub invariant-loop-key : goal.invariant-loop-key
invariant-loop-key g l = length l.counts.items ≡ l.slots
