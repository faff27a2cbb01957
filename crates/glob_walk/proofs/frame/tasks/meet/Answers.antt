use Rattle.std.proofs.Common.{rules, ◌≡◌, ◌+◌, ◌<◌, length, cond, false, Bool, true, None, Some, subst, ap, sym, ◌∙◌}
use Rattle.std.specs.Prelude.{IfSome}
use Rattle.glob_walk.specs.Goal.{are_plain}
use Rattle.glob_walk.specs.Private.Depths.{IsPlainFrom}
use Rattle.glob_walk.specs.Private.Frames.{met_marks}
use Rattle.glob_walk.proofs.WalkLemmas.Depths.{met_plain}
use Rattle.std.proofs.lemmas.Result.{IfOk-weaker}
use Rattle.glob_walk.proofs.WalkLemmas.Entering.{met_some, met_none}
use Rattle.glob_walk.proofs.frame.tasks.meet.Goals.{then-recursive, else-recursive}
use Rattle.glob_walk.proofs.frame.tasks.meet.Goals as goal

if_taken : {X : Type 0} (b : Bool) (x : X) (P : X → Type 0) → P x → IfSome (cond b (Some x) None) P
if_taken true x P h = h
if_taken false x P h = tt

pub returns-in-Some-clause-marks : goal.returns-in-Some-clause-marks
returns-in-Some-clause-marks g c =
    let within : c.args.number < length c.args.plan.now.components.items = search rules in
    let next : c.if-recursive.next ≡ cond c.args.recursive (c.args.number + 1) c.args.number =
    elim c.if-recursive.branch [
      | then-recursive w ↦ w.next-is ∙ sym
          (ap (λ b. cond b (c.args.number + 1) c.args.number) w.if-recursive.true)
      | else-recursive w ↦ w.next-is ∙ sym
          (ap (λ b. cond b (c.args.number + 1) c.args.number) w.if-recursive.false)
    ] in
    IfOk-weaker c.match_at.result _ _
    (λ at is c' path. met_some c' c.args.plan.now c.args.number path c.args.name.now c.args.is_dir within
    c.args.recursive c.if-recursive.next c.in-Some.component.now next c.in-Some.ensures.rest
    ∙ ap (met_marks c' c.args.plan.now path (c.args.name.now, c.args.is_dir)) (sym is))
    c.match_at.ensures

pub returns-in-None-clause-marks : goal.returns-in-None-clause-marks
returns-in-None-clause-marks g c = λ c' path.
    let within : c.args.number < length c.args.plan.now.components.items = search rules in
    let next : c.if-recursive.next ≡ cond c.args.recursive (c.args.number + 1) c.args.number =
    elim c.if-recursive.branch [
      | then-recursive w ↦ w.next-is ∙ sym
          (ap (λ b. cond b (c.args.number + 1) c.args.number) w.if-recursive.true)
      | else-recursive w ↦ w.next-is ∙ sym
          (ap (λ b. cond b (c.args.number + 1) c.args.number) w.if-recursive.false)
    ] in
    met_none c' c.args.plan.now c.args.number path c.args.name.now c.args.is_dir within c.args.recursive
    c.if-recursive.next next c.in-None.ensures.rest
    ∙ ap (λ b. met_marks c' c.args.plan.now path (c.args.name.now, c.args.is_dir) (cond b (Some c.if-recursive.next)
    None)) (sym c.if-is_entered.ensures)

pub returns-in-None-2-clause-marks : goal.returns-in-None-2-clause-marks
returns-in-None-2-clause-marks g c = λ c' path.
    let within : c.args.number < length c.args.plan.now.components.items = search rules in
    let next : c.if-recursive.next ≡ cond c.args.recursive (c.args.number + 1) c.args.number =
    elim c.if-recursive.branch [
      | then-recursive w ↦ w.next-is ∙ sym
          (ap (λ b. cond b (c.args.number + 1) c.args.number) w.if-recursive.true)
      | else-recursive w ↦ w.next-is ∙ sym
          (ap (λ b. cond b (c.args.number + 1) c.args.number) w.if-recursive.false)
    ] in
    met_none c' c.args.plan.now c.args.number path c.args.name.now c.args.is_dir within c.args.recursive
    c.if-recursive.next next c.in-None.ensures.rest
    ∙ ap (λ b. met_marks c' c.args.plan.now path (c.args.name.now, c.args.is_dir) (cond b (Some c.if-recursive.next)
    None)) (sym c.if-is_entered.ensures)

pub returns-in-Some-clause-plain : goal.returns-in-Some-clause-plain
returns-in-Some-clause-plain g c =
    let within : c.args.number < length c.args.plan.now.components.items = search rules in
    let next : c.if-recursive.next ≡ cond c.args.recursive (c.args.number + 1) c.args.number =
    elim c.if-recursive.branch [
      | then-recursive w ↦ w.next-is ∙ sym
          (ap (λ b. cond b (c.args.number + 1) c.args.number) w.if-recursive.true)
      | else-recursive w ↦ w.next-is ∙ sym
          (ap (λ b. cond b (c.args.number + 1) c.args.number) w.if-recursive.false)
    ] in
    IfOk-weaker c.match_at.result _ _
    (λ at is here. subst (λ o. IfSome o (IsPlainFrom c.args.plan.now)) (sym is)
    (if_taken _ (c.if-recursive.next + 1) (IsPlainFrom c.args.plan.now)
    (met_plain c.args.plan.now c.args.number within c.args.recursive c.if-recursive.next c.in-Some.component.now next
    c.in-Some.ensures.rest here)))
    c.match_at.ensures

pub returns-in-None-clause-plain : goal.returns-in-None-clause-plain
returns-in-None-clause-plain g c = λ here. ap (are_plain false) c.in-None.ensures.rest
