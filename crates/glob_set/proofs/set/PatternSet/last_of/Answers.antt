use Rattle.std.proofs.Common.{◌≡◌, ℕ, ◌+◌, ◌-◌, ◌<◌, get_or, sym, subst, ◌∙◌, arith, ⊎_elim}
use Rattle.std.proofs.lemmas.Bool.{cases_eq, false≢true}
use Rattle.glob_set.specs.Sets.{MatchesAt}
use Rattle.glob_set.proofs.AskingLemmas.{NoneAfter, IsLastOf-at, IsLastOf-none}
use Rattle.glob_set.proofs.set.PatternSet.last_of.Goals as goal

pub loop-left-init : goal.loop-left-init
loop-left-init g c = record { within = omega arith; none = λ j from below. absurd (omega (arith, from, below)) }

-- the numbers that are left, and one more
next_left : (n : ℕ) → 0 < n → n ≡ n - 1 + 1
next_left n some = omega arith

pub returns-then-branch-clause-answer : goal.returns-then-branch-clause-answer
returns-then-branch-clause-answer g c =
    let set = c.args.self.now in
    let text = c.args.text.now in
    let numbers = c.args.numbers.now in
    let left = c.loop-left.left in
    IsLastOf-at set.options set.patterns text numbers (left - 1) c.requires.order (omega (arith, c.loop-left.invariant.within))
    (subst (NoneAfter set.options set.patterns text numbers) (next_left left (omega arith)) c.loop-left.invariant.none)
    (c.in_ok-matches_at.ensures.answer.0 c.if-branch.true)

pub loop-left-preserved : goal.loop-left-preserved
loop-left-preserved g c =
    let set = c.args.self.now in
    let text = c.args.text.now in
    let numbers = c.args.numbers.now in
    let left = c.loop-left.left in
    record {
      within = omega (arith, c.loop-left.invariant.within);
      none = λ j from below.
          ⊎_elim
          (λ here at. absurd (false≢true (sym c.if-branch.false ∙ c.in_ok-matches_at.ensures.answer.1
          (subst (λ i. MatchesAt set.options set.patterns text (get_or numbers i 0)) here at))))
          (λ other. c.loop-left.invariant.none j (omega (arith, from, other)) below)
          (cases_eq j (left - 1));
    }

pub returns-clause-answer : goal.returns-clause-answer
returns-clause-answer g c =
    let set = c.args.self.now in
    let text = c.args.text.now in
    let numbers = c.args.numbers.now in
    let end : c.loop-left.left ≡ 0 = omega arith in
    IsLastOf-none set.options set.patterns text numbers (subst (NoneAfter set.options set.patterns text numbers) end
    c.loop-left.invariant.none)
