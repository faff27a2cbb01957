-- Each pattern so far has its need.
use Rattle.std.proofs.Common.{◌≡◌, ℕ, ◌<◌, [], length, get_or, All}
use Rattle.glob_set.specs.Private.Pairs.{HasSmallClass, IsNeed}
use Rattle.glob_set.specs.declared.pairs.Need.{Need}
use Rattle.glob_set.proofs.needs.needs_of.Given as goal

abbrev pub invariant-loop-pattern : goal.invariant-loop-pattern
invariant-loop-pattern g l = record {
  as_many : length l.needs.items ≡ l.pattern-index;
  each : (k : ℕ) (d : Need) → k < l.pattern-index → IsNeed (get_or l.patterns k []) (get_or l.needs.items k d);
  small : All HasSmallClass l.needs.items;
}
