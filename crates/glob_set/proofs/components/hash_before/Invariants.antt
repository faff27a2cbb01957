-- The bytes from `left` on have been read.
use Rattle.std.proofs.Common.{◌≡◌, ◌≤◌, length, drop, fold, reverse}
use Rattle.glob_set.specs.Private.Components.{hashed}
use Rattle.glob_set.proofs.components.hash_before.Given as goal

abbrev pub invariant-loop-left : goal.invariant-loop-left
invariant-loop-left l = record {
  within : l.left ≤ length l.bytes;
  read : l.hash ≡ fold hashed l.fn.hash (reverse (drop l.left l.bytes));
}

abbrev pub decreases-loop-left : goal.decreases-loop-left
decreases-loop-left l = l.left
