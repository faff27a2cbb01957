use Rattle.std.proofs.Common.{ℕ, true, false, take}
use Rattle.glob_pattern.specs.Grammar.Brackets.{holds}
use Rattle.glob_pattern.specs.Private.Classes.{partition_of, class_in}
use Rattle.glob_pattern.specs.Private.CharMasks.{IsWith, mask_at}
use Rattle.glob_pattern.proofs.pattern.char_masks.row.list_all.Given as goal

abbrev pub invariant-loop-entry : goal.invariant-loop-entry
invariant-loop-entry l = record {
  plain : (c : ℕ) → IsWith (mask_at l.fn.plain (class_in (partition_of l.classes) c))
      (mask_at l.plain (class_in (partition_of l.classes) c)) l.bit (holds true c (take l.entry-index l.entries));
  folded : (c : ℕ) → IsWith (mask_at l.fn.folded (class_in (partition_of l.classes) c))
      (mask_at l.folded (class_in (partition_of l.classes) c)) l.bit (holds false c (take l.entry-index l.entries));
}
