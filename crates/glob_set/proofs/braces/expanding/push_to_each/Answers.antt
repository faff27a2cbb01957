use Rattle.std.proofs.Common.{encode_utf8, string_bytes, arith}
use Rattle.glob_set.proofs.BraceTexts.{pushed_more}
use Rattle.glob_set.proofs.braces.expanding.push_to_each.Goals as goal

pub loop-text-preserved : goal.loop-text-preserved
loop-text-preserved g c =
    let l = c.loop-text in
    pushed_more (λ s. string_bytes s) (encode_utf8 c.args.c) c.deref_mut-text-items.result.now l.text-items
    l.text-index c.text-item.result c.push.new.self
    (omega (arith, c.loop-text-test.true, l.auto.text-items)) (omega (arith, c.loop-text-test.true)) c.in_ok-push.ensures.bytes l.invariant
