use Rattle.std.proofs.Common.{false, ap, ◌∙◌}
use Rattle.glob_walk.specs.Goal.{are_plain}
use Rattle.glob_walk.specs.Machines.{listing_of}
use Rattle.glob_walk.proofs.WalkLemmas.Merging.{aim_listing, aim_plain}
use Rattle.glob_walk.proofs.machine.WalkMachine.new.Goals as goal

pub returns-clause-aim : goal.returns-clause-aim
returns-clause-aim g c = λ x.
    let plan = c.in_ok-plan.ensures in
    ap (listing_of x) c.from_plan.ensures.aim ∙ aim_listing x c.args.options c.args.pattern.now c.in_ok-plan.plan
    plan.options plan.rooted plan.directories plan.components

pub returns-clause-plain : goal.returns-clause-plain
returns-clause-plain g c =
    let plan = c.in_ok-plan.ensures in
    ap (λ aim. are_plain false aim.components) c.from_plan.ensures.aim
    ∙ aim_plain c.args.pattern.now c.in_ok-plan.plan plan.accepted plan.components

pub from_plan-requires : goal.from_plan-requires
from_plan-requires g c = record { start = c.in_ok-start.ensures.ok ∙ c.start.ensures }
