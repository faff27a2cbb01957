use Rattle.std.proofs.Common.{ap, subst}
use Rattle.glob_walk.specs.Machines.{saying, step_units}
use Rattle.glob_walk.specs.Iterating.{Goes}
use Rattle.glob_walk.proofs.WalkLemmas.Driving.{question_unit}
use Rattle.glob.proofs.Driving.{Drives-asked, Drives-last, IsDriven-last, seen_walk}
use Rattle.glob.proofs.paths.PathsIterator.next.Goals as goal

pub invariant_of-self : goal.invariant_of-self
invariant_of-self g c =
    let (n, more, steps) = c.advance.ensures.steps in
    IsDriven-last g.T.Tree.asks g.T.Tree.tells c.args.self.now c.loop-item.self-inside.tree c.advance.new.tree
    c.loop-item.self-inside.machine c.advance.new.self (saying c.advance.result) n
    c.loop-item.invariant c.advance.ensures.content c.advance.ensures.untouched more steps (ap (λ s. step_units (saying s)) c.in-Item.is)

pub returns-in-Item-clause-steps : goal.returns-in-Item-clause-steps
returns-in-Item-clause-steps g c =
    let (n, more, steps) = c.advance.ensures.steps in
    subst (λ s. Goes g.T.Tree.asks g.T.Tree.tells c.args.self.now (saying s) (seen_walk c.advance.new.tree c.advance.new.self)) c.in-Item.is
    (Drives-last g.T.Tree.asks g.T.Tree.tells c.args.self.now c.loop-item.self-inside.tree c.advance.new.tree
    c.loop-item.self-inside.machine c.advance.new.self (saying c.advance.result) n
    c.loop-item.invariant c.advance.ensures.content c.advance.ensures.untouched more steps (ap (λ s. step_units (saying s)) c.in-Item.is))

pub returns-in-Done-clause-steps : goal.returns-in-Done-clause-steps
returns-in-Done-clause-steps g c =
    let (n, more, steps) = c.advance.ensures.steps in
    subst (λ s. Goes g.T.Tree.asks g.T.Tree.tells c.args.self.now (saying s) (seen_walk c.advance.new.tree c.advance.new.self)) c.in-Done.is
    (Drives-last g.T.Tree.asks g.T.Tree.tells c.args.self.now c.loop-item.self-inside.tree c.advance.new.tree
    c.loop-item.self-inside.machine c.advance.new.self (saying c.advance.result) n
    c.loop-item.invariant c.advance.ensures.content c.advance.ensures.untouched more steps (ap (λ s. step_units (saying s)) c.in-Done.is))

pub loop-item-preserved : goal.loop-item-preserved
loop-item-preserved g c =
    let (n, more, steps) = c.advance.ensures.steps in
    Drives-asked g.T.Tree.asks g.T.Tree.tells c.args.self.now c.loop-item.self-inside.tree c.advance.new.tree
    c.loop-item.self-inside.machine c.advance.new.self (saying c.advance.result) n
    c.loop-item.invariant c.advance.ensures.content c.advance.ensures.untouched more steps (question_unit c.advance.result c.in-Look.is)
