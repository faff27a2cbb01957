use Rattle.std.proofs.Common.{◌++◌, ◌∷◌, [], ap, arith, map, sym, take, ◌∙◌}
use Rattle.std.proofs.lemmas.List.{map_more, take_all}
use Rattle.glob_search.proofs.beginnings.node.Node.patterns.Goals as goal

pub loop-wild-preserved : goal.loop-wild-preserved
loop-wild-preserved g c =
    let items = c.deref-wild-items.result.now in
    let i = c.loop-wild.wild-index in
    c.in_ok-push.ensures.items
    ∙ ap (λ ps. ps ++ c.in_ok-clone.field-0 ∷ []) c.loop-wild.invariant
    ∙ ap (λ p. map (λ w. w.pattern) (take i items) ++ p ∷ []) (c.in_ok-clone.ensures ∙ ap (λ w. w.pattern) c.wild-item.is)
    ∙ sym (map_more (λ w. w.pattern) items i c.wild-item.result (omega (arith, c.loop-wild-test.true, c.loop-wild.auto.wild-index-end)))

pub returns : goal.returns
returns g c =
    let items = c.deref-wild-items.result.now in
    c.loop-wild.invariant
    ∙ ap (map (λ w. w.pattern)) (take_all c.loop-wild.wild-index items (omega (arith, c.loop-wild-test.false))
    ∙ c.deref-wild-items.ensures.value)
