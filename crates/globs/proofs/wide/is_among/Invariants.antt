-- The character is in one of the remaining ranges exactly when it is in one of all ranges.
use Rattle.std.proofs.Common.{◌≡◌, drop}
use Rattle.globs.specs.Visible.{is_among}
use Rattle.globs.proofs.wide.is_among.Given as goal

abbrev pub invariant-loop-range : goal.invariant-loop-range
invariant-loop-range l = is_among l.c (drop l.range-index l.ranges) ≡ is_among l.c l.ranges
