use Rattle.std.proofs.Common.{[], ap, sym, subst, ◌∙◌}
use Rattle.glob_walk.specs.Walks.{listing}
use Rattle.glob_walk.specs.Machines.{HasGiven, IsFresh, listing_of}
use Rattle.glob_walk.proofs.WalkLemmas.Giving.{given_fresh}
use Rattle.glob.proofs.paths.glob_in.Goals as goal

pub returns-clause-fresh : goal.returns-clause-fresh
returns-clause-fresh g c = subst (IsFresh c.args.limit) (sym c.new-2.ensures.machine) c.in_ok-machine.ensures.fresh

pub returns-clause-aim : goal.returns-clause-aim
returns-clause-aim g c = λ x. ap (λ m. listing_of x m.aim) c.new-2.ensures.machine ∙ c.in_ok-machine.ensures.aim x

pub returns-clause-listing : goal.returns-clause-listing
returns-clause-listing g c = λ x.
    subst (HasGiven (listing x c.args.options c.args.pattern.now) x []) (sym c.new-2.ensures.machine)
    (given_fresh _ _ x _ c.in_ok-machine.ensures.fresh (c.in_ok-machine.ensures.aim x))
