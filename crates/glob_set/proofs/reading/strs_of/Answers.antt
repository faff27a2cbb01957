use Rattle.std.proofs.Common.{◌++◌, ◌∷◌, [], map, take, string_bytes, ap, sym, ◌∙◌, arith}
use Rattle.std.proofs.lemmas.List.{map-append, map_more, take_all}
use Rattle.std.proofs.lemmas.Result.{err_from_is_err_and}
use Rattle.glob_set.proofs.reading.strs_of.Goals as goal

pub loop-text-preserved : goal.loop-text-preserved
loop-text-preserved g c =
    let xs = c.args.texts.now in
    let l = c.loop-text in
    rw c.in_ok-push.ensures.items
    (map-append (λ w. w.now) l.strs.items (c.as_str.result ∷ [])
    ∙ ap (λ texts. texts ++ c.as_str.result.now ∷ []) l.invariant
    ∙ ap (λ text. map string_bytes (take l.text-index xs) ++ text ∷ []) (c.as_str.ensures.value ∙ ap (λ s. string_bytes s) c.text-item.is)
    ∙ sym (map_more (λ s. string_bytes s) xs l.text-index _ (omega arith)))

pub returns : goal.returns
returns g c =
    let l = c.loop-text in
    l.invariant ∙ ap (map string_bytes) (take_all l.text-index c.args.texts.now (omega arith))

pub returns-in_err-push : goal.returns-in_err-push
returns-in_err-push g c = rw (err_from_is_err_and c.from_residual.result c.from_residual.ensures.1).1 tt
