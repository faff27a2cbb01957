use Rattle.std.proofs.Common.{◌≡◌, sym, subst, arith}
use Rattle.glob_set.specs.Private.Buckets.{IsAll}
use Rattle.glob_set.proofs.BucketLemmas.{all_start, all_more}
use Rattle.glob_set.proofs.buckets.bucket_of_all.Goals as goal

pub loop-number-init : goal.loop-number-init
loop-number-init g c = subst (IsAll 0) (sym c.new-numbers.ensures.items) all_start

pub loop-number-preserved : goal.loop-number-preserved
loop-number-preserved g c = all_more c.loop-number.number c.loop-number.numbers.items c.push.new.self.items
    c.in_ok-push.ensures.items c.loop-number.invariant

pub returns : goal.returns
returns g c =
    let end : c.loop-number.number ≡ c.args.count = omega arith in
    subst (λ n. IsAll n c.loop-number.numbers.items) end c.loop-number.invariant
