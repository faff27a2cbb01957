-- The numbers of beginnings.
use Rattle.std.specs.Prelude.{ℕ, ◌<◌}
use Rattle.std.specs.Option.{ForSome}
use Rattle.std.specs.List.{All}
use Rattle.glob_search.specs.declared.beginnings.node.Node.{Node}

-- all numbers that it leads to are less than this
pub record IsWithin {A : Type 0} (count : ℕ) (node : Node A) : Type 0 where
  pub literals : All (λ l. l.node < count) node.literals.items
  pub wilds : All (λ w. w.node < count) node.wilds.items
  pub deep : ForSome node.deep (λ d. d < count)
