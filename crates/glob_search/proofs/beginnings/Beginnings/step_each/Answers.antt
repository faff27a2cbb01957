use Rattle.std.proofs.Common.{◌≡◌, ◌<◌, ◌+◌, ℕ, true, List, length, take, arith, sym, subst, ap}
use Rattle.std.specs.Str.{chars}
use Rattle.std.proofs.lemmas.Bool.{both_ways}
use Rattle.glob_pattern.specs.Computing.Deciding.{is_match}
use Rattle.glob_pattern.proofs.CallerLemmas.{match_decided}
use Rattle.glob_search.specs.Private.Nodes.{Adds, WildStep, WildTakes}
use Rattle.glob_search.specs.declared.beginnings.node.Wild.{Wild}
use Rattle.glob_search.proofs.BeginningLemmas.Adding.{Adds-more, Adds-same, Adds-skip}
use Rattle.glob_search.proofs.beginnings.Beginnings.step_each.Goals.{then-branch+in_ok-enliven, else-branch}
use Rattle.glob_search.proofs.beginnings.Beginnings.step_each.Goals as goal

pub loop-wild-preserved : goal.loop-wild-preserved
loop-wild-preserved g c =
    let o = c.args.self.now.options in
    let nodes = c.args.self.now.nodes.items in
    let name = c.args.name.now in
    let items = c.deref-wild-items.result.now in
    let i = c.loop-wild.wild-index in
    let wild = c.wild-item.result in
    let old = c.args.next.now.items in
    let now = c.loop-wild.next.items in
    let lt : i < length items = omega (arith, c.loop-wild-test.true, c.loop-wild.auto.wild-index-end) in
    let R : Wild g.row.A.Denot → ℕ → Type 0 = λ w k. WildTakes nodes o name w k in
    let goes : List ℕ → Type 0 = λ next. Adds (WildStep nodes o name (take (i + 1) items)) old next in
    elim c.if-branch.branch [
      | then-branch+in_ok-enliven w ↦
          let yes : is_match o (chars wild.pattern) (chars name) ≡ true = (match_decided o (chars wild.pattern)
          (chars name)).1 (c.in_ok-matches_with.ensures.answer.0 w.if-branch.true) in
          subst goes (ap (λ v. v.items) (sym w.next-is))
          (Adds-more R items i wild old now w.enliven.new.alive.items lt c.wild-item.is c.loop-wild.invariant
          (Adds-same now w.enliven.new.alive.items (λ k e. (yes, e)) (λ k p. p.1) w.in_ok-enliven.ensures))
      | else-branch w ↦
          subst goes (ap (λ v. v.items) (sym w.next-is))
          (Adds-skip R items i wild old now lt c.wild-item.is c.loop-wild.invariant
          (λ k p. both_ways c.in_ok-matches_with.field-0 w.if-branch.false (c.in_ok-matches_with.ensures.answer.1
          ((match_decided o (chars wild.pattern) (chars name)).0 p.0))))
    ]
