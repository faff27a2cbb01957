use Rattle.std.proofs.Common.{◌≡◌, ◌+◌, ◌∙◌, [], ◌∷◌, ◌++◌, take, sym, ap, arith}
use Rattle.std.proofs.lemmas.List.{take_more}
use Rattle.glob_examples.proofs.Aligned.{AreAligned-push}
use Rattle.glob_examples.proofs.names.pattern.PathPattern.row.Goals as goal

pub loop-component-preserved : goal.loop-component-preserved
loop-component-preserved g c =
    let i = c.loop-component.component-index in
    let items = c.deref-component-items.result.now in
    let more : take (i + 1) items ≡ take i items ++ c.component-item.result ∷ [] =
    take_more items i c.component-item.result (omega arith) ∙ ap (λ x. take i items ++ x ∷ []) (sym c.component-item.is) in
    rw (more, c.in_ok-push.ensures.items) (AreAligned-push _ _ _ _ _ c.loop-component.invariant c.in_ok-takes_name.ensures)
