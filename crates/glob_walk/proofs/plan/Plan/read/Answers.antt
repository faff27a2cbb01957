use Rattle.std.proofs.Common.{false, sym, ap, subst, ◌∙◌}
use Rattle.std.specs.List.{list_all}
use Rattle.std.specs.Path.{has_no_slash}
use Rattle.glob_text.specs.Pieces.{pieces}
use Rattle.glob_walk.specs.Components.{first_fault}
use Rattle.glob_walk.specs.Private.Forms.{text_fault}
use Rattle.glob_walk.specs.Walks.{RefusesWith}
use Rattle.glob_walk.proofs.WalkLemmas.Reading.{walk_fault-whole, walk_fault-components, IfErr-from_known}
use Rattle.glob_walk.specs.Private.Merging.{are_merged}
use Rattle.glob_walk.proofs.GoalLemmas.PatternParts.{pieces-flat}
use Rattle.glob_walk.proofs.WalkLemmas.Merging.{are_merged-merged, list_all-merged}
use Rattle.glob_walk.proofs.plan.Plan.read.Goals as goal

pub invariant_of-result : goal.invariant_of-result
invariant_of-result g c = record {
  merged = ap are_merged c.in_ok-components.ensures.components ∙ are_merged-merged
      false (pieces c.past_root.result.now);
  names = ap (list_all has_no_slash) c.in_ok-components.ensures.components
      ∙ list_all-merged has_no_slash false (pieces c.past_root.result.now) (pieces-flat c.past_root.result.now);
}

pub returns-in_err-check-clause-refused : goal.returns-in_err-check-clause-refused
returns-in_err-check-clause-refused g c = IfErr-from_known _ _ _
    (λ e is. walk_fault-whole c.args.pattern.now e (subst (RefusesWith (text_fault c.args.pattern.now))
    (sym is) c.in_err-check.ensures.refused))
    c.from_residual.ensures.1

pub returns-in_err-components-clause-refused : goal.returns-in_err-components-clause-refused
returns-in_err-components-clause-refused g c = IfErr-from_known _ _ _
    (λ e is. subst (λ fault. RefusesWith fault e) (ap first_fault (ap pieces c.past_root.ensures)
    ∙ walk_fault-components c.args.pattern.now c.in_ok-check.ensures.accepted)
    (subst (RefusesWith (first_fault (pieces c.past_root.result.now))) (sym is) c.in_err-components.ensures.refused))
    c.from_residual-in_err-components.ensures.1

pub returns-clause-accepted : goal.returns-clause-accepted
returns-clause-accepted g c =
    sym (walk_fault-components c.args.pattern.now c.in_ok-check.ensures.accepted) ∙ ap first_fault
    (ap pieces (sym c.past_root.ensures)) ∙ c.in_ok-components.ensures.accepted
