use Rattle.std.proofs.Common.{subst}
use Rattle.glob_walk.specs.Questions.{IsSomeContent}
use Rattle.glob_walk.specs.Private.Turns.{TurnsTo, said}
use Rattle.glob_walk.proofs.WalkLemmas.Charging.{TurnsTo-none, TurnsTo-after}
use Rattle.glob_walk.proofs.walker.Walker.turns.Goals as goal

pub loop-step-init : goal.loop-step-init
loop-step-init g c = TurnsTo-none IsSomeContent c.args.self.now c.requires.free

pub loop-step-preserved : goal.loop-step-preserved
loop-step-preserved g c =
    TurnsTo-after IsSomeContent IsSomeContent 0 c.args.self.now c.loop-step.self c.turn.new.self _ (λ c' w. w) c.loop-step.invariant
    (subst (λ r. TurnsTo IsSomeContent 0 c.loop-step.self (said r) c.turn.new.self) c.in_default.is c.turn.ensures.turn)

pub returns-in-Some : goal.returns-in-Some
returns-in-Some g c =
    TurnsTo-after IsSomeContent IsSomeContent 0 c.args.self.now c.loop-step.self c.turn.new.self _ (λ c' w. w) c.loop-step.invariant
    (subst (λ r. TurnsTo IsSomeContent 0 c.loop-step.self (said r) c.turn.new.self) c.in-Some.is c.turn.ensures.turn)
