use Rattle.glob_pattern.specs.Private.Classes.{AreNumbered}
use Rattle.glob_pattern.proofs.pattern.classes.Boundaries.number.Given as goal

abbrev pub invariant-loop-c : goal.invariant-loop-c
invariant-loop-c g l = AreNumbered l.self.ascii l.c l.class l.classes
