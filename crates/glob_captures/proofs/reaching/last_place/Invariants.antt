use Rattle.std.proofs.Common.{ℕ, ◌<◌, ◌≤◌, false, length, get_or, IsTrue}
use Rattle.glob_captures.proofs.reaching.last_place.Given as goal

abbrev pub invariant-loop-place : goal.invariant-loop-place
invariant-loop-place l = record {
  within : l.last < length l.places;
  before : l.last ≤ l.place;
  last : (k : ℕ) → k < l.place → IsTrue (get_or l.places k false) → k ≤ l.last;
  here : 0 < l.last → IsTrue (get_or l.places l.last false);
}
