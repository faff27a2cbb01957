-- The patterns lead below the directory if those that are left do.
use Rattle.std.proofs.Common.{◌≡◌, drop, map}
use Rattle.globs.specs.Find.Below.{are_below}
use Rattle.globs.proofs.find.below.are_below.Given as goal

abbrev pub invariant-loop-pattern : goal.invariant-loop-pattern
invariant-loop-pattern l = are_below (map (λ p. p.now) (drop l.pattern-index l.patterns)) ≡ are_below (map (λ p. p.now) l.patterns)
