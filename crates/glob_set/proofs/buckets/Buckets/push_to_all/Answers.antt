use Rattle.std.proofs.Common.{◌<◌, length, map, ap, ◌∙◌, arith}
use Rattle.std.proofs.lemmas.List.{with_items_is}
use Rattle.glob_set.specs.Private.Buckets.{with_another}
use Rattle.glob_set.specs.Private.Keyed.{few_or_many}
use Rattle.glob_set.proofs.BraceTexts.{mapped_more, mapped_next}
use Rattle.glob_set.proofs.BucketLemmas.{all_added, on_ok}
use Rattle.glob_set.proofs.buckets.Buckets.push_to_all.Goals as goal

pub loop-bucket-preserved : goal.loop-bucket-preserved
loop-bucket-preserved g c =
    let l = c.loop-bucket in
    let old = c.deref_mut-bucket-items.result.now in
    let add = with_another c.args.number in
    let below : l.bucket-index < length old = omega (arith, c.loop-bucket-test.true) in
    mapped_more add old l.bucket-items l.bucket-index c.bucket-item.result c.push_another.new.self below l.invariant
    (c.in_ok-push_another.ensures ∙ ap add (mapped_next add old l.bucket-items l.bucket-index c.bucket-item.result below l.invariant))

pub returns : goal.returns
returns g c =
    let l = c.loop-bucket in
    on_ok c.push.result
    (λ is. all_added c.args.number c.self.inside.rest c.push.new.self c.deref_mut-bucket-items.result.now _
    c.args.self.now l.bucket-index is
    (with_items_is c.self.inside.classes l.bucket-items
    (omega (arith, l.auto.bucket-items, c.deref_mut-bucket-items.ensures.len, c.self.inside.classes.ok))
    ∙ l.invariant)
    (omega (arith, c.loop-bucket-test.false))
    (ap (map (few_or_many c.self.inside.rest)) c.deref_mut-bucket-items.ensures.value ∙ c.self.view_is))
    c.push.ensures
