-- The patterns so far are accepted, and lead below the directory if the others do.
use Rattle.std.proofs.Common.{◌≡◌, ℕ, ◌<◌, [], chars, drop, get_or, map}
use Rattle.glob_pattern.specs.Grammar.Units.{IsAccepted}
use Rattle.globs.specs.Find.Below.{are_below}
use Rattle.globs.proofs.find.below.check_patterns.Given as goal

abbrev pub invariant-loop-pattern : goal.invariant-loop-pattern
invariant-loop-pattern g l = record {
  below : are_below (map (λ p. p.now) (drop l.pattern-index l.patterns)) ≡ are_below (map (λ p. p.now) l.patterns);
  accepted : (k : ℕ) → k < l.pattern-index → IsAccepted (chars (get_or (map (λ p. p.now) l.patterns) k []));
}
