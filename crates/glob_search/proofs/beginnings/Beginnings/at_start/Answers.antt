use Rattle.std.proofs.Common.{◌≡◌, List, ℕ, vec_len, length, arith, subst}
use Rattle.std.specs.List.{All}
use Rattle.glob_search.specs.Private.NodeNumbers.{IsWithin}
use Rattle.glob_search.specs.Private.Nodes.{Adds, AreAlive, Enlivens}
use Rattle.glob_search.proofs.BeginningLemmas.Trees.{start-taken}
use Rattle.glob_search.proofs.beginnings.Beginnings.at_start.Goals as goal

pub returns : goal.returns
unfolding AreAlive
returns g c =
    let nodes = c.args.self.now.nodes in
    let same : vec_len nodes ≡ length nodes.items = omega (arith, nodes.ok.0) in
    record {
      alive = λ front tree. start-taken c.args.self.now.options nodes.items front tree
          (subst (λ n. All (IsWithin n) nodes.items) same c.args.self.now.within) c.enliven.new.alive.items
          (omega (arith, same, c.args.self.now.some))
          (subst (λ (old : List ℕ). Adds (Enlivens nodes.items 0) old c.enliven.new.alive.items)
          c.new-alive.ensures.items c.in_ok-enliven.ensures);
    }
