-- The leads so far and the leads of the remaining patterns are the leads of all patterns.
use Rattle.std.proofs.Common.{◌≡◌, drop, map}
use Rattle.std.specs.List.{fold}
use Rattle.globs.specs.Find.Leads.{leads_of, with_lead}
use Rattle.globs.proofs.find.leads.leads_of.Given as goal

abbrev pub invariant-loop-pattern : goal.invariant-loop-pattern
invariant-loop-pattern g l =
    fold with_lead (map (λ x. x.now) l.leads.items) (map (λ p. p.now) (drop l.pattern-index l.patterns)) ≡
    leads_of (map (λ p. p.now) l.patterns)
