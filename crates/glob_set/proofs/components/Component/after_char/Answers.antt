use Rattle.std.proofs.Common.{refl, ap, ◌∙◌, fold, arith}
use Rattle.std.proofs.lemmas.List.{take_all}
use Rattle.glob_set.specs.Private.Components.{after}
use Rattle.glob_set.proofs.ByteFolds.{fold_more}
use Rattle.glob_set.proofs.components.Component.after_char.Goals as goal

pub loop-byte-init : goal.loop-byte-init
loop-byte-init c = refl

pub loop-byte-preserved : goal.loop-byte-preserved
loop-byte-preserved c =
    let l = c.loop-byte in
    c.after-component.ensures ∙ fold_more after c.args.self l.component c.as_bytes-byte-items.result.now l.byte-index
    (omega arith) l.invariant

pub returns : goal.returns
returns c =
    let bytes = c.as_bytes-byte-items.result.now in
    let l = c.loop-byte in
    l.invariant ∙ ap (fold after c.args.self) (take_all l.byte-index bytes (omega arith)
    ∙ c.as_bytes-byte-items.ensures.value ∙ c.encode_utf8.ensures.value)
