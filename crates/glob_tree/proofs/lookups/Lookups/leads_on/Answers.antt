use Rattle.std.proofs.Common.{◌∷◌, [], ap, sym, subst, ◌∙◌}
use Rattle.std.specs.Prelude.{is_some}
use Rattle.std.proofs.lemmas.Bool.{both_ways}
use Rattle.glob_tree.specs.FileSystems.{IsHeld, number_found, stat_found}
use Rattle.glob_tree.specs.Private.Looking.{IsTarget, LookupsModel}
use Rattle.glob_tree.specs.Strays.{and_then}
use Rattle.glob_tree.proofs.SystemLemmas.Reporting.{link_ends, link_leads, link_there}
use Rattle.glob_tree.proofs.lookups.Lookups.leads_on.Goals as goal
use Rattle.glob_tree.proofs.lookups.Lookups.leads_on.Goals.{then-is_loop, else-is_loop}

pub returns-in_default-clause-leads : goal.returns-in_default-clause-leads
returns-in_default-clause-leads g c = λ f held direct.
    let link = c.args.link.now in
    link_ends f link
    (subst (IsTarget (stat_found f link) (number_found f link)) c.in_default.is (c.in_ok-target.ensures.found f held direct)) _ _
    (c.in_ok-target.ensures.reported f held direct)

pub returns-clause-leads : goal.returns-clause-leads
returns-clause-leads g c = λ f held direct.
    let link = c.args.link.now in
    let old = g.S.Strays.paths c.args.self.now.strays in
    let new = g.S.Strays.paths c.if-is_loop.self.strays in
    let loop = c.in_ok-is_loop.is_loop in
    let target = subst (IsTarget (stat_found f link) (number_found f link)) c.in-Some.is (c.in_ok-target.ensures.found f held direct) in
    let same = c.in_ok-target.ensures.known (ap is_some c.in-Some.is) in
    let files = subst (λ o. IsHeld o f) (sym c.in_ok-target.ensures.files) held in
    let above = c.in_ok-is_loop.ensures f files direct (link_there f link target.0) in
    elim c.if-is_loop.branch [
      | then-is_loop w ↦ link_leads f link c.in-Some.target target loop above old new
          (λ yes. ap (λ (d : LookupsModel _). g.S.Strays.paths d.strays) w.self-is ∙ w.unsettled.ensures.paths
          ∙ ap (λ (d : LookupsModel _). and_then (g.S.Strays.paths d.strays) (link ∷ [])) c.self.view_is
          ∙ ap (λ o. and_then o (link ∷ [])) same)
          (λ no. absurd (both_ways loop no w.if-is_loop.true))
      | else-is_loop w ↦ link_leads f link c.in-Some.target target loop above old new
          (λ yes. absurd (both_ways loop w.if-is_loop.false yes))
          (λ no. ap (λ (d : LookupsModel _). g.S.Strays.paths d.strays) w.self-is ∙ same)
    ]
