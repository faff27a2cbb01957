use Rattle.std.proofs.Common.{◌≡◌, ℕ, ◌<◌, ◌≤◌, bit_xor}
use Rattle.glob_pattern.specs.Private.CharMasks.{mask_at}
use Rattle.glob_pattern.proofs.pattern.char_masks.row.invert.Given as goal

abbrev pub invariant-loop-mask : goal.invariant-loop-mask
invariant-loop-mask l = record {
  done : (n : ℕ) → n < l.mask-index → mask_at l.row n ≡ bit_xor (mask_at l.fn.row n) l.bits;
  left : (n : ℕ) → l.mask-index ≤ n → mask_at l.row n ≡ mask_at l.fn.row n;
}
