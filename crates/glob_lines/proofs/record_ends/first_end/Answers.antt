use Rattle.std.proofs.Common.{◌==◌, drop, arith}
use Rattle.std.proofs.lemmas.List.{drop-drop, length-drop}
use Rattle.glob_lines.proofs.LineLemmas.FirstPlaces.{first-past}
use Rattle.glob_lines.proofs.record_ends.first_end.Goals as goal

pub loop-start-preserved : goal.loop-start-preserved
loop-start-preserved c =
    let bytes = c.args.bytes.now in
    let start = c.loop-start.start in
    let rest = drop start bytes in
    let long = length-drop start bytes in
    let past = first-past (λ b. b == c.args.end) 16 rest (omega (arith, long, c.loop-start-test.true))
    (omega (arith, c.if-before-lt-LANES.false, c.before_end-before.ensures)) in
    record {
      within = omega (arith, c.loop-start-test.true);
      past = rw (← (drop-drop 16 start bytes)) (omega (arith, c.loop-start.invariant.past, past));
    }
