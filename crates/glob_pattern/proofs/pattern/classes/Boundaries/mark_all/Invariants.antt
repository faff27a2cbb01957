use Rattle.std.proofs.Common.{take}
use Rattle.std.specs.List.{All}
use Rattle.glob_pattern.specs.Private.Classes.{HasInterval, Grows, EntryIntervals}
use Rattle.glob_pattern.proofs.pattern.classes.Boundaries.mark_all.Given as goal

abbrev pub invariant-loop-entry : goal.invariant-loop-entry
invariant-loop-entry g l = record {
  marked : All (EntryIntervals (HasInterval l.self)) (take l.entry-index l.entries);
  grows : Grows l.fn.self l.self;
}
