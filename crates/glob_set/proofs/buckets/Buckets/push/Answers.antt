use Rattle.std.proofs.Common.{◌<◌, IfSome, subst, arith}
use Rattle.glob_set.proofs.BucketLemmas.{on_ok, one_added}
use Rattle.glob_set.proofs.buckets.Buckets.push.Goals as goal

pub returns-in-Some : goal.returns-in-Some
returns-in-Some g c =
    let class = c.in-Some.class in
    let small : class < 128 = subst (λ k. IfSome k (λ k. k < 128)) c.in-Some.is c.requires in
    on_ok c.push_behind.result
    (λ is. one_added c.args.number class c.args.class c.self.inside.rest c.self.inside.classes.items c.args.self.now
    c.index_mut.result.now c.push_behind.new.self
    (omega (arith, small, c.self.invariant)) c.in-Some.is c.index_mut.ensures.value is c.self.view_is)
    c.push_behind.ensures
