-- The patterns from the number on are linked.
use Rattle.std.proofs.Common.{ℕ, ◌+◌, ◌-◌, ◌<◌, ◌≤◌, length, get_or, None}
use Rattle.glob_set.specs.Private.Keyed.{key_slot, IsNext}
use Rattle.glob_set.proofs.keyed.link.Given as goal

abbrev pub invariant-loop-number : goal.invariant-loop-number
invariant-loop-number l = record {
  within : l.number ≤ length l.keys;
  first : (slot : ℕ) → slot < length l.first → IsNext l.keys (length l.first - 1) slot l.number (get_or l.first slot 0);
  each : (k : ℕ) → l.number ≤ k → k < length l.keys
      → IsNext l.keys (length l.first - 1) (key_slot (get_or l.keys k None) (length l.first - 1)) (k + 1) (get_or l.next k 0);
}

abbrev pub decreases-loop-number : goal.decreases-loop-number
decreases-loop-number l = l.number
