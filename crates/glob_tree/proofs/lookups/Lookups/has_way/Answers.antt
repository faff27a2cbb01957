use Rattle.std.proofs.Common.{rules, ◌≡◌, true, false, inr, refl, subst}
use Rattle.glob_tree.specs.FileSystems.{is_direct}
use Rattle.glob_tree.specs.Private.Looking.{LeadsOn}
use Rattle.glob_tree.proofs.ReceivedLemmas.{above_trans, received_below}
use Rattle.glob_tree.proofs.SystemLemmas.Looking.{way_of_one, way_below}
use Rattle.glob_tree.proofs.SystemLemmas.Ways.{direct_above}
use Rattle.glob_tree.proofs.lookups.Lookups.has_way.Goals as goal

pub returns-in_default-clause-way : goal.returns-in_default-clause-way
returns-in_default-clause-way g c = λ f seen. way_of_one f seen.0.1 c.args.path.now c.in_default.ensures

pub returns-then-is_known-clause-way : goal.returns-then-is_known-clause-way
returns-then-is_known-clause-way g c = λ f seen.
    way_below f seen.0.1 c.args.path.now c.in-Some.above.now c.in-Some.field-0-1.now c.in-Some.ensures.0
    c.in-Some.ensures.1 true (c.if-is_known.ensures.known refl f seen)

pub returns-then-not-branch-clause-way : goal.returns-then-not-branch-clause-way
returns-then-not-branch-clause-way g c = λ f seen.
    let none : c.in_ok-leads.field-0 ≡ false = search rules in
    way_below f seen.0.1 c.args.path.now c.in-Some.above.now c.in-Some.field-0-1.now c.in-Some.ensures.0 c.in-Some.ensures.1 false
    (subst (LeadsOn f c.in-Some.above.now) none (c.in_ok-leads.ensures.leads f seen))

pub returns-clause-way : goal.returns-clause-way
returns-clause-way g c = λ f seen.
    let yes : c.in_ok-leads.field-0 ≡ true = search rules in
    way_below f seen.0.1 c.args.path.now c.in-Some.above.now c.in-Some.field-0-1.now c.in-Some.ensures.0 c.in-Some.ensures.1 true
    (subst (LeadsOn f c.in-Some.above.now) yes (c.in_ok-leads.ensures.leads f seen))

pub returns-then-not-branch-clause-said : goal.returns-then-not-branch-clause-said
returns-then-not-branch-clause-said g c = λ f held direct told.
    let none : c.in_ok-leads.field-0 ≡ false = search rules in
    let above = direct_above f held.1 c.in-Some.above.now c.in-Some.field-0-1.now
    (subst (λ p. is_direct f p ≡ true) c.in-Some.ensures.0 direct) in
    let (way, (last, over, non, more)) = c.in_ok-leads.ensures.said f held above none in (
      way_below f held.1 c.args.path.now c.in-Some.above.now c.in-Some.field-0-1.now c.in-Some.ensures.0 c.in-Some.ensures.1 false way,
      (
        last,
        above_trans last c.in-Some.above.now c.args.path.now over (inr (c.in-Some.field-0-1.now, c.in-Some.ensures.0)),
        inr non,
        more,
      ),
    )

pub returns-then-not-branch-clause-received : goal.returns-then-not-branch-clause-received
returns-then-not-branch-clause-received g c =
    received_below c.in-Some.above.now c.args.path.now _ _ (inr (c.in-Some.field-0-1.now, c.in-Some.ensures.0))
    c.in_ok-leads.ensures.received
