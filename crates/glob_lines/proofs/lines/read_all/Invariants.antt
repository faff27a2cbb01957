-- The front of `input` is what was read.
use Rattle.std.proofs.Common.{◌≡◌, ◌≤◌, ◌-◌, ◌^◌, false, take, vec_len}
use Rattle.std.specs.Io.KnownBytes.{Consumes}
use Rattle.glob_lines.proofs.lines.read_all.Given as goal

abbrev pub invariant-loop-input : goal.invariant-loop-input
invariant-loop-input g l = record {
  none_failed : l.reader.failed ≡ false;
  within : l.filled ≤ vec_len l.input;
  read : Consumes (g.R.Read.remaining l.initial.reader.inner) (g.R.Read.remaining l.reader.inner) (take l.filled l.input.items);
}

abbrev pub decreases-loop-input : goal.decreases-loop-input
decreases-loop-input g l = 2 ^ 64 - l.filled
