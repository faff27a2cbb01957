use Rattle.std.proofs.Common.{map, string_bytes, arith}
use Rattle.glob_set.proofs.BraceTexts.{joined_more}
use Rattle.glob_set.proofs.braces.expanding.joined.Goals as goal

pub loop-first-preserved : goal.loop-first-preserved
loop-first-preserved g c =
    let l = c.loop-first in
    joined_more (λ s. string_bytes s) c.args.firsts.now (map string_bytes c.args.seconds.now) l.first-index
    c.first-item.result c.as_str.result.now _ _
    (omega arith) c.first-item.is c.as_str.ensures.value l.invariant c.in_ok-push_joined.ensures
