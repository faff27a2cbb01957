use Rattle.std.proofs.Common.{◌≡◌, map, take}
use Rattle.glob_search.proofs.beginnings.node.Node.patterns.Given as goal

abbrev pub invariant-loop-wild : goal.invariant-loop-wild
invariant-loop-wild g l = l.patterns.items ≡ map (λ w. w.pattern) (take l.wild-index l.wild-items)
