use Rattle.std.proofs.Common.{ℕ, ◌-◌, ◌<◌, ◌≤◌, length, IsTrue}
use Rattle.glob_captures.specs.Private.Ends.{may_end}
use Rattle.glob_captures.proofs.capturing.first_end.Given as goal

abbrev pub invariant-loop-end : goal.invariant-loop-end
invariant-loop-end l = record {
  low : l.place ≤ l.end;
  high : l.end ≤ length l.text;
  before : (j : ℕ) → l.place ≤ j → j < l.end → ¬ (IsTrue (may_end l.closes l.text l.next l.place j));
}

abbrev pub decreases-loop-end : goal.decreases-loop-end
decreases-loop-end l = length l.text - l.end
