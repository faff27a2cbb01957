use Rattle.std.proofs.Common.{◌-◌, ◌≤◌, length}
use Rattle.glob_captures.specs.Private.Written.{IsRead}
use Rattle.glob_captures.proofs.written.recursive_end.Given as goal

abbrev pub invariant-loop-end : goal.invariant-loop-end
invariant-loop-end l = record {
  low : l.place ≤ l.end;
  high : l.end ≤ length l.text;
  read : IsRead l.text l.place l.end;
}

abbrev pub decreases-loop-end : goal.decreases-loop-end
decreases-loop-end l = length l.text - l.end
