-- The keys so far are keys of the patterns.
use Rattle.std.proofs.Common.{◌≡◌, ℕ, ◌<◌, [], length, get_or, None, IfSome}
use Rattle.glob_set.specs.Private.Keys.{HasKey}
use Rattle.glob_set.proofs.rarest.rarest_of.Given as goal

abbrev pub invariant-loop-number : goal.invariant-loop-number
invariant-loop-number g l = record {
  as_many : length l.keys.items ≡ l.number;
  each : (k : ℕ) → k < l.number → IfSome (get_or l.keys.items k None) (HasKey (get_or l.patterns k []));
}
