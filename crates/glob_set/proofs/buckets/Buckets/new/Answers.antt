use Rattle.std.proofs.Common.{◌≡◌, ◌<◌, length, sym, subst, ◌∙◌, arith}
use Rattle.glob_set.specs.Private.Buckets.{AreBuckets}
use Rattle.glob_set.proofs.BucketLemmas.{buckets_add, buckets_skip, buckets_start}
use Rattle.glob_set.proofs.buckets.Buckets.new.Goals as goal
use Rattle.glob_set.proofs.buckets.Buckets.new.Goals.{then-is_none+in_ok-push, else-is_none}

pub loop-number-init : goal.loop-number-init
loop-number-init g c = subst (AreBuckets c.args.needs.now c.args.keys.now 0) (sym c.in_ok-buckets.ensures)
    (buckets_start c.args.needs.now c.args.keys.now)

pub loop-number-preserved : goal.loop-number-preserved
loop-number-preserved g c =
    let needs = c.args.needs.now in
    let keys = c.args.keys.now in
    let l = c.loop-number in
    let below : l.number < length needs = omega (arith, c.loop-number-test.true) in
    elim c.if-is_none.branch [
      | then-is_none+in_ok-push w ↦
          buckets_add needs keys l.number _ l.buckets c.if-is_none.buckets below c.requires.classes
          (w.buckets-is ∙ w.in_ok-push.ensures) l.invariant
      | else-is_none w ↦
          subst (AreBuckets needs keys _) (sym w.buckets-is) (buckets_skip needs keys l.number l.buckets below
          w.if-is_none.ensures l.invariant)
    ]

pub returns : goal.returns
returns g c =
    let l = c.loop-number in
    let end : l.number ≡ length c.args.needs.now = omega (arith, c.loop-number-test.false, l.auto.number-end) in
    subst (λ n. AreBuckets c.args.needs.now c.args.keys.now n l.buckets) end l.invariant
