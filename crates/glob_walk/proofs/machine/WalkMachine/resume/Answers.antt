use Rattle.std.proofs.Common.{rules, ◌≡◌, ◌+◌, ◌≤◌, ◌^◌, None, refl, sym, ap, arith, subst, ◌∙◌}
use Rattle.glob_walk.specs.Private.Walkers.{IsGood}
use Rattle.glob_walk.specs.Private.Queries.{question_of}
use Rattle.glob_walk.specs.Answers.{IfFailed, IsAnswer, IsAnswered, answer_count}
use Rattle.glob_walk.specs.Machines.{Says, Ends, item_number, saying}
use Rattle.glob_walk.specs.Questions.{IsSomeContent, question_path}
use Rattle.glob_walk.proofs.WalkLemmas.MachineSteps.{IsGood-resumed, goes_at, goes_over, none_answered, none_failed}
use Rattle.glob_walk.proofs.WalkLemmas.MachineSteps.{none_open, none_waits, one_item, waits_at}
use Rattle.glob_walk.proofs.machine.WalkMachine.resume.Goals as goal

pub returns-then-self-clause-failed : goal.returns-then-self-clause-failed
returns-then-self-clause-failed g c = λ fits.
    subst (λ v. IfFailed c.args.answer (question_path v.asked) (λ o. Ends ≡ Says o)) c.self.view_is
    (none_failed (question_of c.self.inside.walker.query) c.args.answer _ _ (ap question_of
    (c.self.invariant.ended c.if-self.true)) (subst (λ v. IsAnswer v.asked c.args.answer) (sym c.self.view_is)
    fits))

pub returns-then-self-clause-steps : goal.returns-then-self-clause-steps
returns-then-self-clause-steps g c = λ fits.
    goes_over c.self.inside.walker c.self.inside.given c.self.inside.over c.if-self.true (IsAnswered _ c.args.answer)
    (answer_count c.args.answer) c.args.self.now c.self.view_is c.self.invariant
    (none_answered (question_of c.self.inside.walker.query) c.args.answer (ap question_of
    (c.self.invariant.ended c.if-self.true)) (subst (λ v. IsAnswer v.asked c.args.answer) (sym c.self.view_is)
    fits))

pub returns-then-self-clause-free : goal.returns-then-self-clause-free
returns-then-self-clause-free g c = λ free.
    goes_over c.self.inside.walker c.self.inside.given c.self.inside.over c.if-self.true IsSomeContent 0
    c.args.self.now c.self.view_is c.self.invariant refl

pub returns-then-self-clause-waits : goal.returns-then-self-clause-waits
returns-then-self-clause-waits g c = λ some other.
    absurd (none_waits _ (subst (λ v. v.asked ≡ None) c.self.view_is (ap question_of (c.self.invariant.ended c.if-self.true))) some)

pub proceed-step-requires : goal.proceed-step-requires
proceed-step-requires g c = record { opened = (c.self.invariant.going c.if-self.false).opened }

pub overflow_add-self : goal.overflow_add-self
overflow_add-self g c =
    let one : c.item_count.result ≤ 1 = subst (λ n. n ≤ 1) (sym c.item_count.ensures) (one_item (saying c.proceed-step.result)) in
    let few = c.self.invariant.few in
    let fits = c.self.invariant.fits in
    let limit = c.self.inside.walker.meter.within in
    let small : c.self.inside.given + c.item_count.result ≤ 2 ^ 64 + 1 = omega (arith, one, few, fits, limit) in
    search rules

pub invariant_of-self : goal.invariant_of-self
invariant_of-self g c =
    let said = saying c.proceed-step.result in
    let turn = c.proceed-step.ensures in
    subst (λ n. IsGood c.proceed-step.new.self (c.self.inside.given + n) c.is_last-self-inside.result) (sym c.item_count.ensures)
    (subst (λ b. IsGood c.proceed-step.new.self (c.self.inside.given + item_number said) b) (sym c.is_last-self-inside.ensures)
    (IsGood-resumed c.self.inside.walker c.proceed-step.new.self c.self.inside.given c.self.invariant.fits
    (c.self.invariant.going c.if-self.false) c.args.answer said turn.free turn.waits turn.turn))

pub returns-clause-failed : goal.returns-clause-failed
returns-clause-failed g c =
    subst (λ v. IsAnswer v.asked c.args.answer → IfFailed c.args.answer (question_path v.asked)
    (λ o. saying c.proceed-step.result ≡ Says o)) c.self.view_is c.proceed-step.ensures.failed

pub returns-clause-steps : goal.returns-clause-steps
returns-clause-steps g c = λ fits.
    goes_at (λ q. IsAnswered q c.args.answer) (answer_count c.args.answer) c.self.inside.walker c.proceed-step.new.self
    c.self.inside.given c.self.inside.over c.args.self.now
    c.self.view_is c.if-self.false c.self.invariant.fits (c.self.invariant.going c.if-self.false)
    (saying c.proceed-step.result) c.item_count.result c.is_last-self-inside.result
    c.item_count.ensures c.is_last-self-inside.ensures (c.proceed-step.ensures.turn
    (subst (λ v. IsAnswer v.asked c.args.answer) (sym c.self.view_is) fits)) c.proceed-step.ensures.cleared

pub returns-clause-free : goal.returns-clause-free
returns-clause-free g c = λ free.
    goes_at (λ q. IsSomeContent) 0 c.self.inside.walker c.proceed-step.new.self c.self.inside.given c.self.inside.over c.args.self.now
    c.self.view_is c.if-self.false c.self.invariant.fits (c.self.invariant.going c.if-self.false)
    (saying c.proceed-step.result) c.item_count.result c.is_last-self-inside.result
    c.item_count.ensures c.is_last-self-inside.ensures (c.proceed-step.ensures.free
    (none_open _ (subst (λ v. v.asked ≡ None) (sym c.self.view_is) free))) c.proceed-step.ensures.cleared

pub returns-clause-waits : goal.returns-clause-waits
returns-clause-waits g c =
    waits_at c.self.inside.walker c.proceed-step.new.self c.self.inside.given c.self.inside.over c.args.self.now
    c.self.view_is c.if-self.false c.args.answer
    (saying c.proceed-step.result) c.item_count.result c.is_last-self-inside.result c.item_count.ensures
    c.is_last-self-inside.ensures c.proceed-step.ensures.waits
