use Rattle.std.proofs.Common.{rules, refl}
use Rattle.glob_walk.specs.declared.task.TaskState.TheVariants.{Unseen}
use Rattle.glob_walk.specs.declared.task.Accepted.TheVariants.{Any}
use Rattle.glob_walk.proofs.WalkLemmas.MachineSteps.{IsGood-fresh, sound-fresh, left-fresh}
use Rattle.glob_walk.proofs.machine.WalkMachine.from_plan.Goals as goal

pub invariant_of-result : goal.invariant_of-result
invariant_of-result g c = IsGood-fresh _ _ refl (search rules) refl refl refl (search rules)

pub returns-clause-fresh : goal.returns-clause-fresh
returns-clause-fresh g c = record {
  limit = refl;
  spent = refl;
  given = refl;
  over = refl;
  asked = refl;
  agrees = λ c'. sound-fresh c' _ _ refl refl refl refl c.requires.start (search rules);
  whole = λ c'. left-fresh c' c.args.plan (record { path = c.args.start; component = 0; state = Unseen Any }) c.new-frames.result.items
      refl refl (search rules) c.requires.start;
}
