use Rattle.std.proofs.Common.{rules, ◌≡◌, ◌∙◌, ◌++◌, ◌∷◌, [], None, sym, subst}
use Rattle.glob_walk.specs.Iterating.{Goes}
use Rattle.glob_walk.specs.Machines.{Says, Ends, next_saying}
use Rattle.glob_walk.specs.Walks.{outcome, refusal_end}
use Rattle.glob_walk.specs.declared.ending.End.TheVariants as end
use Rattle.glob.specs.Private.Walking.{EndsAs}
use Rattle.glob.proofs.Gathering.{Gathers, Gathers-none, Gathers-item, Ends-done, Ends-refusal, Ends-memory, item_from_no_end}
use Rattle.glob.proofs.walk.gather.Goals as goal

pub loop-item-init : goal.loop-item-init
loop-item-init g c = subst (λ xs. Gathers g.T.Tree.asks g.T.Tree.tells c.args.paths.now xs c.args.paths.now)
    (sym c.requires.empty) (Gathers-none g.T.Tree.asks g.T.Tree.tells c.args.paths.now c.requires.fresh)

pub returns-in_default : goal.returns-in_default
returns-in_default g c =
    let goes : Goes g.T.Tree.asks g.T.Tree.tells c.loop-item.paths Ends c.next.new.self = subst
    (λ r. Goes g.T.Tree.asks g.T.Tree.tells c.loop-item.paths (next_saying r) c.next.new.self) c.in_default.is
    c.next.ensures.steps in
    Ends-done g.T.Tree.asks g.T.Tree.tells c.args.paths.now c.loop-item.paths c.next.new.self c.loop-item.items.items
    c.loop-item.invariant goes

pub returns-in-Some-end_of : goal.returns-in-Some-end_of
returns-in-Some-end_of g c =
    let goes : Goes g.T.Tree.asks g.T.Tree.tells c.loop-item.paths (Says (outcome c.in-Some.item)) c.next.new.self =
    subst (λ r. Goes g.T.Tree.asks g.T.Tree.tells c.loop-item.paths (next_saying r) c.next.new.self) c.in-Some.is
    c.next.ensures.steps in
    Ends-refusal g.T.Tree.asks g.T.Tree.tells c.args.paths.now c.loop-item.paths c.next.new.self
    c.loop-item.items.items c.loop-item.invariant
    (outcome c.in-Some.item) c.in-Some-end_of.end (sym c.end_of.ensures ∙ c.in-Some-end_of.is) goes

pub returns-then-is_err : goal.returns-then-is_err
returns-then-is_err g c =
    let none : refusal_end (outcome c.in-Some.item) ≡ None = sym c.end_of.ensures ∙ c.in_default-end_of.is in
    let (item, says) = item_from_no_end (outcome c.in-Some.item) none in
    let goes = subst (λ r. Goes g.T.Tree.asks g.T.Tree.tells c.loop-item.paths (next_saying r) c.next.new.self)
    c.in-Some.is c.next.ensures.steps in
    let goes' = subst (λ o. Goes g.T.Tree.asks g.T.Tree.tells c.loop-item.paths (Says o) c.next.new.self) says goes in
    let kept : c.loop-item.items.items ≡ c.push.new.self.items = search rules in
    subst (λ xs. EndsAs g.T.Tree.asks g.T.Tree.tells c.args.paths.now end.Memory c.next.new.self.machine.spent xs c.next.new.self.tree) kept
    (Ends-memory g.T.Tree.asks g.T.Tree.tells c.args.paths.now c.loop-item.paths c.next.new.self
    c.loop-item.items.items c.loop-item.invariant _ goes'.asked goes')

pub loop-item-preserved : goal.loop-item-preserved
loop-item-preserved g c =
    let none : refusal_end (outcome c.in-Some.item) ≡ None = sym c.end_of.ensures ∙ c.in_default-end_of.is in
    let (item, says) = item_from_no_end (outcome c.in-Some.item) none in
    let goes = subst (λ r. Goes g.T.Tree.asks g.T.Tree.tells c.loop-item.paths (next_saying r) c.next.new.self)
    c.in-Some.is c.next.ensures.steps in
    let goes' = subst (λ o. Goes g.T.Tree.asks g.T.Tree.tells c.loop-item.paths (Says o) c.next.new.self) says goes in
    let pushed : c.loop-item.items.items ++ c.in-Some.item ∷ [] ≡ c.push.new.self.items = search rules in
    subst (λ xs. Gathers g.T.Tree.asks g.T.Tree.tells c.args.paths.now xs c.next.new.self) pushed
    (Gathers-item g.T.Tree.asks g.T.Tree.tells c.args.paths.now c.loop-item.paths c.next.new.self
    c.loop-item.items.items c.loop-item.invariant c.in-Some.item item says goes')
