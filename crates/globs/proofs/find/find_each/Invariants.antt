-- The searches for the leads so far, and what was found.
use Rattle.std.proofs.Common.{map, take}
use Rattle.glob_rules.specs.Lists.{rules_of}
use Rattle.globs.proofs.EachLemmas.{AreSearched}
use Rattle.globs.proofs.find.find_each.Given as goal

abbrev pub invariant-loop-lead : goal.invariant-loop-lead
invariant-loop-lead g l =
    let o = l.options in AreSearched (record {
      content = g.P.Places.content l.places o.settings.follows;
      texts = g.P.Places.texts l.places;
      kinds = g.F.PathKinds.kinds l.files o.settings.follows;
      above = g.P.Places.above l.places;
    }) o (rules_of l.rules) (map (λ p. p.now) l.patterns) (map (λ x. x.now) (take l.lead-index l.leads))
    l.findings (g.W.Write.contents l.initial.output) (g.W.Write.contents l.output)
