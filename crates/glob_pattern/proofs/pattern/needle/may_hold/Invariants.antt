-- The needle is at none of the offsets so far.
use Rattle.std.proofs.Common.{ℕ, ◌-◌, ◌<◌, length}
use Rattle.glob_pattern.specs.Private.Needles.{IsAt}
use Rattle.glob_pattern.proofs.pattern.needle.may_hold.Given as goal

abbrev pub invariant-loop-start : goal.invariant-loop-start
invariant-loop-start l = (k : ℕ) → k < l.start → ¬ (IsAt l.bytes l.needle k)

abbrev pub decreases-loop-start : goal.decreases-loop-start
decreases-loop-start l = length l.bytes - l.start
