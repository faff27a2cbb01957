use Rattle.std.proofs.Common.{◌+◌, Contains, sym, ap, subst, ◌∙◌, arith}
use Rattle.std.proofs.lemmas.Bool.{false≢true}
use Rattle.glob_set.proofs.AskingLemmas.{PushedSoFar, PushedSoFar-start, PushedSoFar-yes, PushedSoFar-no, PushedSoFar-end}
use Rattle.glob_set.proofs.set.PatternSet.push_of.Goals as goal
use Rattle.glob_set.proofs.set.PatternSet.push_of.Goals.{then-branch+in_ok-push, else-branch}

pub loop-number-init : goal.loop-number-init
loop-number-init g c =
    let set = c.args.self.now in
    PushedSoFar-start set.options set.patterns c.args.text.now c.args.numbers.now.items c.args.asked.now

pub loop-number-preserved : goal.loop-number-preserved
loop-number-preserved g c =
    let set = c.args.self.now in
    let text = c.args.text.now in
    let before = c.args.numbers.now.items in
    let asked = c.args.asked.now in
    let l = c.loop-number in
    elim c.if-branch.branch [
      | then-branch+in_ok-push w ↦
          PushedSoFar-yes set.options set.patterns text before asked l.number-index l.numbers.items c.if-branch.numbers.items
          (c.in_ok-matches_at.ensures.answer.0 w.if-branch.true) (ap (λ v. v.items) w.numbers-is ∙ w.in_ok-push.ensures.items) l.invariant
      | else-branch w ↦
          subst (PushedSoFar set.options set.patterns text before asked (l.number-index + 1)) (sym (ap (λ v. v.items) w.numbers-is))
          (PushedSoFar-no set.options set.patterns text before asked l.number-index l.numbers.items
          (λ at. absurd (false≢true (sym w.if-branch.false ∙ c.in_ok-matches_at.ensures.answer.1 at))) l.invariant)
    ]

pub returns-clause-all : goal.returns-clause-all
returns-clause-all g c =
    let set = c.args.self.now in
    PushedSoFar-end set.options set.patterns c.args.text.now c.args.numbers.now.items c.args.asked.now
    c.loop-number.number-index c.loop-number.numbers.items
    (omega arith) c.loop-number.invariant

pub returns-in_err-push-clause-kept : goal.returns-in_err-push-clause-kept
returns-in_err-push-clause-kept g c =
    λ k has. subst (λ ks. Contains ks k) (sym c.in_err-push.ensures.items) (c.loop-number.invariant.kept k has)
