use Rattle.std.proofs.Common.{true, false}
use Rattle.glob_pattern.specs.Private.Classes.{partition_of}
use Rattle.glob_pattern.specs.Private.CharMasks.{AreListed}
use Rattle.glob_pattern.proofs.pattern.char_masks.row.fill.Given as goal

abbrev pub invariant-loop-n : goal.invariant-loop-n
invariant-loop-n g l = record {
  plain : AreListed l.tokens l.start l.n (partition_of l.classes) true l.plain l.kinds;
  folded : AreListed l.tokens l.start l.n (partition_of l.classes) false l.folded l.kinds;
}
