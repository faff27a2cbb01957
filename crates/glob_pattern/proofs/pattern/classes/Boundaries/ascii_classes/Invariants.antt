use Rattle.std.proofs.Common.{◌*◌}
use Rattle.glob_pattern.specs.Private.Classes.{AreNumbered}
use Rattle.glob_pattern.proofs.pattern.classes.Boundaries.ascii_classes.Given as goal

abbrev pub invariant-loop-n : goal.invariant-loop-n
invariant-loop-n g l = AreNumbered l.self.ascii (8 * l.n) l.class l.classes
