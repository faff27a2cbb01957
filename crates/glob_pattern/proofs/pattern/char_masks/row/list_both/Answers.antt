use Rattle.std.proofs.Common.{arith}
use Rattle.glob_pattern.specs.Private.Classes.{partition_of}
use Rattle.glob_pattern.proofs.ClassLemmas.Separating.{class-bounds}
use Rattle.glob_pattern.proofs.pattern.char_masks.row.list_both.Goals as goal

pub paint-requires-clause-last : goal.paint-requires-clause-last
paint-requires-clause-last c =
    let bounds = class-bounds (partition_of c.args.classes) c.requires.partition c.args.last in
    omega (arith, bounds.1, c.classes_of-from.ensures.to, c.requires.long)

pub paint-requires-then-first-last-clause-last : goal.paint-requires-then-first-last-clause-last
paint-requires-then-first-last-clause-last c =
    let bounds = class-bounds (partition_of c.args.classes) c.requires.partition c.args.last in
    omega (arith, bounds.1, c.classes_of-from.ensures.to, c.requires.long_folded)
