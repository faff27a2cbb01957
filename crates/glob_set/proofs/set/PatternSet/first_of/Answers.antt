use Rattle.std.proofs.Common.{◌≡◌, length, sym, subst, below_more, ◌∙◌, arith}
use Rattle.std.proofs.lemmas.Bool.{false≢true}
use Rattle.glob_set.proofs.AskingLemmas.{NoneBefore, IsFirstOf-at, IsFirstOf-none}
use Rattle.glob_set.proofs.set.PatternSet.first_of.Goals as goal

pub loop-number-init : goal.loop-number-init
loop-number-init g c = λ k below. absurd (omega arith)

pub returns-then-branch-clause-answer : goal.returns-then-branch-clause-answer
returns-then-branch-clause-answer g c =
    let set = c.args.self.now in
    IsFirstOf-at set.options set.patterns c.args.text.now c.args.numbers.now c.loop-number.number-index
    c.requires.order (omega arith) c.loop-number.invariant
    (c.in_ok-matches_at.ensures.answer.0 c.if-branch.true)

pub loop-number-preserved : goal.loop-number-preserved
loop-number-preserved g c =
    below_more _ _ c.loop-number.invariant (λ at. absurd (false≢true (sym c.if-branch.false ∙ c.in_ok-matches_at.ensures.answer.1 at)))

pub returns-clause-answer : goal.returns-clause-answer
returns-clause-answer g c =
    let set = c.args.self.now in
    let text = c.args.text.now in
    let numbers = c.args.numbers.now in
    let end : c.loop-number.number-index ≡ length numbers = omega arith in
    IsFirstOf-none set.options set.patterns text numbers (subst (NoneBefore set.options set.patterns text numbers) end
    c.loop-number.invariant)
