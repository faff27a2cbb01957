use Rattle.std.proofs.Common.{◌++◌, ◌∷◌, [], map, take, string_bytes, ap, sym, ◌∙◌, arith}
use Rattle.std.proofs.lemmas.List.{map-append, map_more, take_all}
use Rattle.std.proofs.lemmas.Result.{err_from_is_err_and}
use Rattle.glob_console.proofs.words.as_strs.Goals as goal

pub loop-argument-preserved : goal.loop-argument-preserved
loop-argument-preserved g c =
    let xs = c.args.arguments.now in
    let l = c.loop-argument in
    rw c.in_ok-push.ensures.items
    (map-append (λ w. w.now) l.words.items (c.as_str.result ∷ [])
    ∙ ap (λ texts. texts ++ c.as_str.result.now ∷ []) l.invariant
    ∙ ap (λ text. map string_bytes (take l.argument-index xs) ++ text ∷ []) (c.as_str.ensures.value ∙ ap
    (λ s. string_bytes s) c.argument-item.is)
    ∙ sym (map_more (λ s. string_bytes s) xs l.argument-index _ (omega arith)))

pub returns : goal.returns
returns g c =
    let l = c.loop-argument in
    l.invariant ∙ ap (map string_bytes) (take_all l.argument-index c.args.arguments.now (omega arith))

pub returns-in_err-push : goal.returns-in_err-push
returns-in_err-push g c = rw (err_from_is_err_and c.from_residual.result c.from_residual.ensures.1).1 tt
