use Rattle.std.proofs.Common.{◌≡◌, ◌++◌, ◌∷◌, [], length, replicate, ap, subst, ◌∙◌, arith}
use Rattle.std.proofs.lemmas.List.{length-replicate, replicate_more}
use Rattle.glob_set.proofs.BucketLemmas.{no_number, none_added}
use Rattle.glob_set.proofs.buckets.Buckets.empty.Goals as goal

pub loop-class-preserved : goal.loop-class-preserved
loop-class-preserved g c =
    let l = c.loop-class in
    c.in_ok-push.ensures.items
    ∙ ap (λ own. l.classes.items ++ own ∷ []) c.new-own.ensures
    ∙ ap (λ classes. classes ++ no_number ∷ []) l.invariant
    ∙ replicate_more l._class no_number

pub invariant_of-result : goal.invariant_of-result
invariant_of-result g c =
    let l = c.loop-class in
    let end : l._class ≡ 128 = omega arith in
    ap length l.invariant ∙ length-replicate l._class no_number ∙ end

pub returns : goal.returns
returns g c =
    let l = c.loop-class in
    let end : l._class ≡ 128 = omega arith in
    none_added c.new-rest.result l.classes.items 128 c.new-rest.ensures (subst (λ n. l.classes.items ≡ replicate n []) end l.invariant)
