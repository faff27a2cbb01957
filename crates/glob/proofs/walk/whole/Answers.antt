use Rattle.std.proofs.Common.{sym, subst}
use Rattle.glob.specs.Private.Walking.{EndsAs}
use Rattle.glob.proofs.walk.whole.Goals as goal

pub returns : goal.returns
returns g c =
    subst (λ n. EndsAs g.T.Tree.asks g.T.Tree.tells c.args.paths c.gather-end.result n c.gather-end.new.items.items
    c.into_tree.result) (sym c.spent-spent.ensures.spent)
    (subst (λ t. EndsAs g.T.Tree.asks g.T.Tree.tells c.args.paths c.gather-end.result
    c.gather-end.new.paths.machine.spent c.gather-end.new.items.items t) (sym c.into_tree.ensures)
    c.gather-end.ensures)
