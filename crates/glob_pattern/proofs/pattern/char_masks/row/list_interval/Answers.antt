use Rattle.std.proofs.Common.{arith}
use Rattle.glob_pattern.specs.Private.Classes.{partition_of, class_in}
use Rattle.glob_pattern.proofs.ClassLemmas.Folding.{held-none}
use Rattle.glob_pattern.proofs.ClassLemmas.Separating.{class-bounds}
use Rattle.glob_pattern.proofs.MaskLemmas.Putting.{with_none}
use Rattle.glob_pattern.proofs.pattern.char_masks.row.list_interval.Goals as goal

pub paint-requires-clause-last : goal.paint-requires-clause-last
paint-requires-clause-last c =
    let bounds = class-bounds (partition_of c.args.classes) c.requires.partition c.args.last in
    omega (arith, bounds.1, c.class-then-first-last.ensures, c.requires.long)

pub returns-then-first-last : goal.returns-then-first-last
returns-then-first-last c = λ d.
    rw (c.class.ensures, c.class-then-first-last.ensures, c.requires.apart c.if-first-last.true d) at (c.paint.ensures
    (class_in (partition_of c.args.classes) d))

pub returns-else-first-last : goal.returns-else-first-last
returns-else-first-last c = λ d. rw (held-none c.args.first c.args.last d (omega (arith, c.if-first-last.false))) (with_none _ c.args.bit)
