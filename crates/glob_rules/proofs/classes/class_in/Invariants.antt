use Rattle.std.proofs.Common.{◌≡◌, map, length}
use Rattle.glob_rules.specs.Private.ClassTables.{class_in}
use Rattle.glob_rules.proofs.classes.class_in.Given as goal

abbrev pub invariant-loop-classes : goal.invariant-loop-classes
invariant-loop-classes l = class_in (map (λ c. (c.0.now, c.1)) l.classes) l.name ≡ class_in (map (λ c. (c.0.now, c.1)) l.fn.classes) l.name

abbrev pub decreases-loop-classes : goal.decreases-loop-classes
decreases-loop-classes l = length l.classes
