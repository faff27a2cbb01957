use Rattle.std.proofs.Common.{take}
use Rattle.glob_search.specs.Private.Nodes.{Adds, WildStep}
use Rattle.glob_search.proofs.beginnings.Beginnings.step_each.Given as goal

abbrev pub invariant-loop-wild : goal.invariant-loop-wild
invariant-loop-wild g l =
    Adds (WildStep l.fn.self.nodes.items l.fn.self.options l.fn.name (take l.wild-index l.wild-items)) l.initial.next.items l.next.items
