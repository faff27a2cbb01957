use Rattle.std.proofs.Common.{◌≡◌, ◌≤◌, ◌<◌, ℕ, List, [], length, take, get_or, arith, sym, ap, subst}
use Rattle.std.specs.List.{dedup}
use lib.Dec.{eqb}
use Rattle.std.proofs.lemmas.List.{get_or_default}
use Rattle.std.proofs.lemmas.List.Filters.{dedup_is}
use Rattle.glob_search.specs.Private.Nodes.{Adds, Steps, StepsFrom}
use Rattle.glob_search.proofs.BeginningLemmas.Adding.{Adds-end, Adds-more, Adds-sorted, Adds-start}
use Rattle.glob_search.proofs.beginnings.Beginnings.after_key.Goals as goal

pub loop-number-init : goal.loop-number-init
loop-number-init g c front tree =
    subst (λ (next : List ℕ). Adds (StepsFrom c.args.self.now.nodes.items c.args.self.now.options c.args.name.now
    c.args.key.now (take 0 c.args.alive.now)) [] next) (sym c.new-next.ensures.items)
    (Adds-start (Steps c.args.self.now.nodes.items c.args.self.now.options c.args.name.now c.args.key.now) c.args.alive.now [])

pub loop-number-preserved : goal.loop-number-preserved
loop-number-preserved g c front tree =
    let alive = c.args.alive.now in
    let i = c.loop-number.number-index in
    let lt : i < length alive = omega (arith, c.loop-number-test.true, c.loop-number.auto.number-index-end) in
    Adds-more (Steps c.args.self.now.nodes.items c.args.self.now.options c.args.name.now c.args.key.now) alive i
    (get_or alive i 0) [] c.loop-number.next.items c.step.new.next.items
    lt (ap (λ (n : ℕ). n) (get_or_default alive i 0 (get_or alive i 0) lt)) (c.loop-number.invariant front tree)
    (c.in_ok-step.ensures front tree)

pub returns : goal.returns
returns g c front tree =
    let alive = c.args.alive.now in
    let o = c.args.self.now.options in
    let nodes = c.args.self.now.nodes.items in
    let i = c.loop-number.number-index in
    let le : length alive ≤ i = omega (arith, c.loop-number-test.false, c.loop-number.auto.number-index-end) in
    let all = Adds-end (Steps nodes o c.args.name.now c.args.key.now) alive i [] c.loop-number.next.items le
    (c.loop-number.invariant front tree) in
    let kept : c.dedup.new.self.items ≡ dedup eqb c.sort_unstable.new.self.items = dedup_is eqb
    c.sort_unstable.new.self.items c.dedup.new.self.items c.dedup.ensures.filtered in
    subst (λ (next : List ℕ). Adds (StepsFrom nodes o c.args.name.now c.args.key.now alive) [] next) (sym kept)
    (Adds-sorted [] c.loop-number.next.items c.sort_unstable.new.self.items c.sort_unstable.ensures.permutation all)
