-- The needle is at no offset whose bit was cleared.
use Rattle.std.proofs.Common.{ℕ, ◌+◌}
use Rattle.std.specs.Int.{IsBitSet}
use Rattle.glob_pattern.specs.Private.Needles.{IsAt}
use Rattle.glob_pattern.proofs.pattern.needle.is_at_any.Given as goal

abbrev pub invariant-loop-left : goal.invariant-loop-left
invariant-loop-left l = (k : ℕ) → IsBitSet l.found k → ¬ (IsBitSet l.left k) → ¬ (IsAt l.bytes l.needle (l.start + k))

abbrev pub decreases-loop-left : goal.decreases-loop-left
decreases-loop-left l = l.left
