use Rattle.std.proofs.Common.{ℕ, ◌+◌, ◌≤◌, max, ◌&&◌, nat_le, nat_lt}
use Rattle.glob_pattern.specs.Private.CharMasks.{IsWith, mask_at}
use Rattle.glob_pattern.proofs.pattern.char_masks.row.paint.Given as goal

abbrev pub invariant-loop-class : goal.invariant-loop-class
invariant-loop-class l = record {
  inside : l.class ≤ max l.fn.first (l.fn.last + 1);
  listed : (n : ℕ) → IsWith (mask_at l.fn.row n) (mask_at l.row n) l.bit (nat_le l.fn.first n && nat_lt n l.class);
}
