-- No end is from `len` on.
use Rattle.std.proofs.Common.{◌≤◌, length, drop}
use Rattle.glob_lines.specs.Lines.{HasNoEnd}
use Rattle.glob_lines.proofs.copying.whole_len.Given as goal

abbrev pub invariant-loop-len : goal.invariant-loop-len
invariant-loop-len l = record {
  more : l.partial ≤ l.len;
  within : l.len ≤ length l.bytes;
  none : HasNoEnd l.end (drop l.len l.bytes);
}

abbrev pub decreases-loop-len : goal.decreases-loop-len
decreases-loop-len l = l.len
