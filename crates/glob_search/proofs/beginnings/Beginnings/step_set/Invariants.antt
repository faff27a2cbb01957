use Rattle.std.proofs.Common.{◌≡◌, ℕ, Some, take}
use Rattle.std.specs.Prelude.{Contains, slice_get}
use Rattle.glob_search.specs.Private.Nodes.{Adds, Enlivens}
use Rattle.glob_search.specs.declared.beginnings.node.Wild.{Wild}
use Rattle.glob_search.proofs.beginnings.Beginnings.step_set.Given as goal

abbrev pub invariant-loop-number : goal.invariant-loop-number
invariant-loop-number g l =
    Adds (λ k. (n : ℕ) × Contains (take l.number-index l.number-items) n
    × ((w : Wild _) × (slice_get l.fn.node.wilds.items n ≡ Some w) × Enlivens l.fn.self.nodes.items w.node k))
    l.initial.next.items l.next.items
