-- The patterns taken so far, and those to be taken from the patterns that are left, are all that are to be taken.
use Rattle.std.proofs.Common.{◌≡◌, ◌++◌, drop, map}
use Rattle.globs.specs.Find.Leads.{led}
use Rattle.globs.proofs.find.leads.led_patterns.Given as goal

abbrev pub invariant-loop-pattern : goal.invariant-loop-pattern
invariant-loop-pattern g l =
    map (λ p. p.now) l.found.items ++ led l.lead (map (λ p. p.now) (drop l.pattern-index l.patterns)) ≡
    led l.lead (map (λ p. p.now) l.patterns)
