use Rattle.std.proofs.Common.{◌≡◌, ◌<◌, ◌+◌, ℕ, List, None, Some, arith, get_or, length, take, sym, subst, ap, ◌∙◌}
use Rattle.std.specs.Prelude.{Contains, option_copied, slice_get}
use Rattle.std.proofs.lemmas.List.{get_or_default}
use Rattle.std.proofs.lemmas.Option.{none-some, same_Some}
use Rattle.glob_search.specs.Private.Nodes.{Adds, Enlivens}
use Rattle.glob_search.specs.declared.beginnings.node.Wild.{Wild}
use Rattle.glob_search.proofs.BeginningLemmas.Adding.{Adds-end, Adds-more, Adds-same, Adds-skip}
use Rattle.glob_search.proofs.BeginningLemmas.Gathering.{read-at, wild-steps}
use Rattle.glob_search.proofs.beginnings.Beginnings.step_set.Goals.{in-Some+in_ok-enliven, in_default}
use Rattle.glob_search.proofs.beginnings.Beginnings.step_set.Goals as goal

pub loop-number-preserved : goal.loop-number-preserved
loop-number-preserved g c =
    let nodes = c.args.self.now.nodes.items in
    let wilds = c.args.node.now.wilds.items in
    let items = c.deref-number-items.result.now in
    let i = c.loop-number.number-index in
    let n = get_or items i 0 in
    let old = c.args.next.now.items in
    let now = c.loop-number.next.items in
    let lt : i < length items = omega (arith, c.loop-number-test.true, c.loop-number.auto.number-index-end) in
    let here : n ≡ get_or items i n = get_or_default items i 0 n lt in
    let read : slice_get wilds n ≡ option_copied c.get.result = ap (λ ws. slice_get ws n) (sym c.deref.ensures.value)
    ∙ read-at _ c.deref.result.now n c.get.result c.get.ensures.lookup.3 c.get.ensures.lookup.1 in
    let R : ℕ → ℕ → Type 0 = λ m k. (w : Wild g.row.A.Denot) × (slice_get wilds m ≡ Some w) × Enlivens nodes w.node k in
    let goes : List ℕ → Type 0 = λ next. Adds (λ k. (m : ℕ) × Contains (take (i + 1) items) m × R m k) old next in
    elim c.match-get.branch [
      | in-Some+in_ok-enliven w ↦
          let at : slice_get wilds n ≡ Some w.in-Some.wild.now = read ∙ ap option_copied w.in-Some.is in
          subst goes (ap (λ v. v.items) (sym w.next-is))
          (Adds-more R items i n old now w.enliven.new.alive.items lt here c.loop-number.invariant
          (Adds-same now w.enliven.new.alive.items (λ k e. (w.in-Some.wild.now, at, e))
          (λ k p. subst (λ x. Enlivens nodes x.node k) (same_Some p.0 w.in-Some.wild.now (sym p.1 ∙ at)) p.2) w.in_ok-enliven.ensures))
      | in_default w ↦
          let at : slice_get wilds n ≡ None = read ∙ ap option_copied w.in_default.is in
          subst goes (ap (λ v. v.items) (sym w.next-is))
          (Adds-skip R items i n old now lt here c.loop-number.invariant (λ k p. none-some p.0 (sym at ∙ p.1)))
    ]

pub returns : goal.returns
returns g c = λ same are.
    let items = c.deref-number-items.result.now in
    wild-steps c.args.self.now.nodes.items c.args.self.now.options c.args.name.now c.args.node.now.wilds.items _ _ items same are
    (c.deref-number-items.ensures.value ∙ c.in_ok-matches_into.ensures.all)
    c.args.next.now.items c.loop-number.next.items
    (Adds-end _ items c.loop-number.number-index _ _ (omega (arith, c.loop-number-test.false)) c.loop-number.invariant)
