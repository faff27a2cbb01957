use Rattle.std.proofs.Common.{◌≡◌, ℕ, ◌+◌, ◌*◌, ◌<◌, ◌≤◌, Bool, length}
use Rattle.glob_pattern.specs.Private.Classes.{partition_of, columns_of}
use Rattle.glob_pattern.specs.Private.CharMasks.{mask_at, half_of, IsRow}
use Rattle.glob_pattern.proofs.pattern.char_masks.fill_rows.Given as goal

abbrev pub invariant-loop-word : goal.invariant-loop-word
invariant-loop-word g l = record {
  long : length l.masks ≡ length l.fn.masks;
  done : (i : ℕ) (case : Bool) → i < l.word
      → IsRow l.tokens (63 * i) (partition_of l.classes) case l.masks ((2 * i + half_of case) * columns_of (partition_of l.classes));
  left : (r : ℕ) → l.word * (2 * columns_of (partition_of l.classes)) ≤ r → mask_at l.masks r ≡ 0;
}
