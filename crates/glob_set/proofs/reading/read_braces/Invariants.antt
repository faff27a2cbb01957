-- The alternatives of the texts so far are read and accepted.
use Rattle.std.proofs.Common.{ℕ, ◌<◌, [], map, take, get_or}
use Rattle.glob_set.specs.BraceSets.{AreAlternativesOf, HasPatterns}
use Rattle.glob_set.proofs.reading.read_braces.Given as goal

abbrev pub invariant-loop-number : goal.invariant-loop-number
invariant-loop-number g l = record {
  read : AreAlternativesOf (map (λ t. t.now) (take l.number l.texts)) l.patterns.items;
  accepted : (k : ℕ) → k < l.number → HasPatterns (get_or (map (λ t. t.now) l.texts) k []);
}
