use Rattle.std.proofs.Common.{◌≡◌, [], vec_len, length, arith, sym, ap, subst, ◌∙◌}
use Rattle.std.specs.List.{All}
use Rattle.glob_search.specs.Private.NodeNumbers.{IsWithin}
use Rattle.glob_search.specs.Private.Nodes.{Adds, AreAlive, StepsFrom, folded}
use Rattle.glob_search.proofs.BeginningLemmas.Adding.{ok-at, ok-known}
use Rattle.glob_search.proofs.BeginningLemmas.Trees.{alive-after}
use Rattle.glob_search.proofs.beginnings.Beginnings.after.Goals as goal

pub returns-then-self : goal.returns-then-self
unfolding AreAlive
returns-then-self g c =
    let nodes = c.args.self.now.nodes in
    let o = c.args.self.now.options in
    let name = c.args.name.now in
    let old = c.args.alive.now in
    let same : vec_len nodes ≡ length nodes.items = omega (arith, nodes.ok.0) in
    record {
      alive = λ names alive. ok-known c.after_key.result (λ next is front tree.
          alive-after o nodes.items front tree (subst (λ n. All (IsWithin n) nodes.items) same c.args.self.now.within)
          names name name c.utf8.name
          (ap (λ case. folded case name) (sym c.if-self.true)) old next.items (alive front tree)
          (ok-at (λ next. Adds (StepsFrom nodes.items o name name old) [] next.items) c.after_key.result next is
          (c.after_key.ensures front tree)));
    }

pub returns : goal.returns
unfolding AreAlive
returns g c =
    let nodes = c.args.self.now.nodes in
    let o = c.args.self.now.options in
    let name = c.args.name.now in
    let old = c.args.alive.now in
    let key = c.as_str.result.now in
    let same : vec_len nodes ≡ length nodes.items = omega (arith, nodes.ok.0) in
    record {
      alive = λ names alive. ok-known c.after_key-2.result (λ next is front tree.
          alive-after o nodes.items front tree (subst (λ n. All (IsWithin n) nodes.items) same c.args.self.now.within)
          names name key c.utf8.name
          (c.as_str.ensures.value ∙ c.in_ok-key.ensures.ok ∙ ap (λ case. folded case name) (sym c.if-self.false)) old
          next.items (alive front tree)
          (ok-at (λ next. Adds (StepsFrom nodes.items o name key old) [] next.items) c.after_key-2.result next is
          (c.after_key-2.ensures front tree)));
    }
