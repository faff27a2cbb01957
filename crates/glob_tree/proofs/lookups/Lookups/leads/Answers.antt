use Rattle.std.proofs.Common.{rules, ◌≡◌, ◌∷◌, [], true, false, inr, refl, sym, subst, ◌∙◌}
use Rattle.glob_tree.specs.FileSystems.{IsHeld, is_direct}
use Rattle.glob_tree.specs.Followed.{AreReported}
use Rattle.glob_tree.specs.Private.Looking.{IsSeen}
use Rattle.glob_tree.proofs.ReceivedLemmas.{above_trans, received_above}
use Rattle.glob_tree.proofs.SystemLemmas.Looking.{step_way, last_way, step_none, no_way}
use Rattle.glob_tree.proofs.SystemLemmas.Reporting.{none_said}
use Rattle.glob_tree.proofs.SystemLemmas.Ways.{direct_above}
use Rattle.glob_tree.proofs.lookups.Lookups.leads.Goals as goal

pub returns-then-not-branch-clause-leads : goal.returns-then-not-branch-clause-leads
returns-then-not-branch-clause-leads g c = λ f seen.
    let kept = c.loop-directory.invariant in
    let still = subst (λ l. IsSeen l c.loop-directory.self.files f) (sym kept.2)
    (subst (λ o. IsSeen c.args.self.now.links o f) (sym kept.1) seen) in
    let none : c.in_ok-is_dir.field-0 ≡ false = search rules in
    kept.4 f (c.loop-directory-test.ensures.some refl)
    (no_way f c.loop-directory.directory.now c.in_ok-is_dir.field-0 none (λ direct. c.in_ok-is_dir.ensures.directory f still direct))

pub returns-then-not-branch-clause-said : goal.returns-then-not-branch-clause-said
returns-then-not-branch-clause-said g c = λ f held direct told.
    let kept = c.loop-directory.invariant in
    let none : c.in_ok-is_dir.field-0 ≡ false = search rules in
    let said = c.in_ok-is_dir.ensures.said f (subst (λ o. IsHeld o f) (sym kept.1) held) (kept.5 f held direct) in
    let non = none_said c.loop-directory.self.links f c.loop-directory.directory.now c.in_ok-is_dir.field-0 none _ _ said in (
      kept.4 f (c.loop-directory-test.ensures.some refl) non,
      (
        c.loop-directory.directory.now,
        kept.8,
        non,
        subst (λ l. AreReported l f (c.loop-directory.directory.now ∷ []) (g.S.Strays.paths c.args.self.now.strays)
            (g.S.Strays.paths c.is_dir.new.self.strays)) kept.2
            (subst (λ o. AreReported c.loop-directory.self.links f (c.loop-directory.directory.now ∷ []) o
            (g.S.Strays.paths c.is_dir.new.self.strays)) kept.6 said.0),
      ),
    )

pub returns-then-not-branch-clause-received : goal.returns-then-not-branch-clause-received
returns-then-not-branch-clause-received g c =
    let kept = c.loop-directory.invariant in
    received_above c.loop-directory.directory.now c.args.above.now _ _ _ kept.8 kept.6 c.in_ok-is_dir.ensures.received

pub loop-directory-preserved : goal.loop-directory-preserved
loop-directory-preserved g c =
    let kept = c.loop-directory.invariant in
    let yes : c.in_ok-is_dir.field-0 ≡ true = search rules in (
      search rules,
      c.in_ok-is_dir.ensures.files ∙ kept.1,
      c.in_ok-is_dir.ensures.links ∙ kept.2,
      λ f seen way.
          let still = subst (λ l. IsSeen l c.loop-directory.self.files f) (sym kept.2)
          (subst (λ o. IsSeen c.args.self.now.links o f) (sym kept.1) seen) in
          kept.3 f seen (step_way f seen.0.1 c.loop-directory.directory.now c.in-Some.further.now
          c.in-Some.field-0-1.now c.in-Some.ensures.0 c.in-Some.ensures.1
          c.in_ok-is_dir.field-0 yes (λ direct. c.in_ok-is_dir.ensures.directory f still direct) way),
      λ f some none. kept.4 f (c.loop-directory-test.ensures.some refl)
          (step_none f.content c.loop-directory.directory.now c.in-Some.further.now c.in-Some.field-0-1.now c.in-Some.ensures.0 some none),
      λ f held direct. direct_above f held.1 c.in-Some.further.now c.in-Some.field-0-1.now
          (subst (λ p. is_direct f p ≡ true) c.in-Some.ensures.0 (kept.5 f held direct)),
      c.in_ok-is_dir.ensures.settled yes ∙ kept.6,
      c.in_ok-is_dir.ensures.strays ∙ kept.7,
      above_trans c.in-Some.further.now c.loop-directory.directory.now c.args.above.now
          (inr (c.in-Some.field-0-1.now, c.in-Some.ensures.0)) kept.8,
    )

pub returns-in_default-clause-leads : goal.returns-in_default-clause-leads
returns-in_default-clause-leads g c = λ f seen.
    let kept = c.loop-directory.invariant in
    let still = subst (λ l. IsSeen l c.loop-directory.self.files f) (sym kept.2)
    (subst (λ o. IsSeen c.args.self.now.links o f) (sym kept.1) seen) in
    let yes : c.in_ok-is_dir.field-0 ≡ true = search rules in
    kept.3 f seen (last_way f seen.0.1 c.loop-directory.directory.now c.in_default.ensures c.in_ok-is_dir.field-0 yes
    (λ direct. c.in_ok-is_dir.ensures.directory f still direct))

pub returns-in_default-clause-settled : goal.returns-in_default-clause-settled
returns-in_default-clause-settled g c = λ told.
    let yes : c.in_ok-is_dir.field-0 ≡ true = search rules in
    c.in_ok-is_dir.ensures.settled yes ∙ c.loop-directory.invariant.6
