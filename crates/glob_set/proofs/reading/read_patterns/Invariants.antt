-- The texts so far are accepted, and their patterns are read.
use Rattle.std.proofs.Common.{◌≡◌, ℕ, ◌<◌, [], chars, map, take, get_or}
use Rattle.glob_pattern.specs.Grammar.Units.{IsAccepted}
use Rattle.glob_set.proofs.reading.read_patterns.Given as goal

abbrev pub invariant-loop-number : goal.invariant-loop-number
invariant-loop-number g l = record {
  read : l.patterns.items ≡ map (λ t. t.now) (take l.number-counter l.texts);
  accepted : (k : ℕ) → k < l.number-counter → IsAccepted (chars (get_or (map (λ t. t.now) l.texts) k []));
}
