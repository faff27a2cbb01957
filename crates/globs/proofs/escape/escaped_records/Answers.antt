use Rattle.std.proofs.Common.{string_bytes, arith}
use Rattle.globs.proofs.EscapeLemmas.{all_records, one_more}
use Rattle.globs.proofs.escape.escaped_records.Goals as goal

pub loop-text-init : goal.loop-text-init
loop-text-init g c rest are = rw c.new-records.ensures.bytes are

pub loop-text-preserved : goal.loop-text-preserved
loop-text-preserved g c =
    rw c.in_ok-push.ensures.bytes (rw c.in_ok-push_str.ensures.bytes (rw c.as_str.ensures.value
    (rw c.from.ensures (one_more c.args.end c.args.texts.now c.loop-text.text-index _ (string_bytes c.loop-text.records)
    _ (omega arith) c.in_ok-pattern.ensures.escaped c.in_ok-pattern.ensures.stands c.loop-text.invariant))))

pub returns : goal.returns
returns g c = all_records c.args.end c.args.texts.now c.loop-text.text-index _ (omega arith) c.loop-text.invariant
