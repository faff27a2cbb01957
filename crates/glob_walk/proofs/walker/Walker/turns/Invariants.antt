use Rattle.std.specs.Prelude.{None}
use Rattle.glob_walk.specs.Questions.{IsSomeContent}
use Rattle.glob_walk.specs.Private.Stacks.{weight}
use Rattle.glob_walk.specs.Private.Turns.{TurnsTo}
use Rattle.glob_walk.proofs.walker.Walker.turns.Given as goal

abbrev pub invariant-loop-step : goal.invariant-loop-step
invariant-loop-step g l = TurnsTo IsSomeContent 0 l.initial.self None l.self

abbrev pub decreases-loop-step : goal.decreases-loop-step
decreases-loop-step g l = weight l.self.stack
