use Rattle.std.proofs.Common.{map, string_bytes, ap, ◌∙◌, arith}
use Rattle.std.proofs.lemmas.List.{map-append}
use Rattle.glob_set.proofs.BraceSetLemmas.{AreAlternativesOf-take}
use Rattle.globs.proofs.braces.expand_words.Goals as goal

pub loop-word-preserved : goal.loop-word-preserved
loop-word-preserved g c =
    let l = c.loop-word in
    let is = ap (map string_bytes) c.in-Ok.ensures.items ∙ map-append string_bytes l.texts.items c.in_ok-alternatives.alternatives.items in
    AreAlternativesOf-take (λ w. w.now) c.args.words.now l.word-index _ (map string_bytes l.texts.items) _
    (map string_bytes c.in_ok-alternatives.alternatives.items)
    (omega arith) l.invariant c.in_ok-alternatives.ensures is
