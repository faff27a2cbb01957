use Rattle.std.proofs.Common.{◌<◌, ◌↔◌, false, length, IsTrue, IfOk, IsOk, subst}
use Rattle.std.proofs.lemmas.Bool.{false≢true}
use Rattle.glob_set.specs.Sets.{Set, MatchesAt, AreShort}
use Rattle.glob_set.proofs.ListReading.{MatchesAt-iff, MatchesAt-not, AreShort-at, IfOk-follow}
use Rattle.glob_set.proofs.set.PatternSet.matches_at.Goals as goal

pub returns-then-lacks-clause-answer : goal.returns-then-lacks-clause-answer
returns-then-lacks-clause-answer g c =
    let text = c.args.text.now in
    let number = c.args.number in
    let inside = c.self.inside in
    let P : Set → Type 0 = λ s. (IsTrue false → MatchesAt s.options s.patterns text number) ×
    (MatchesAt s.options s.patterns text number → IsTrue false) in
    subst P c.self.view_is (
      λ no. absurd (false≢true no),
      λ at. absurd (MatchesAt-not inside.options inside.patterns.items text inside.needs.items number
          c.index.result.now c.args.bits c.self.invariant.0 c.utf8.text c.index.ensures c.requires.bits
          (c.lacks.ensures c.if-lacks.true) at),
    )

pub returns-clause-answer : goal.returns-clause-answer
returns-clause-answer g c =
    let text = c.args.text.now in
    let number = c.args.number in
    let inside = c.self.inside in
    let P : Set → Type 0 = λ s. number < length s.patterns → IfOk c.matches_with.result (λ yes. IsTrue yes ↔ MatchesAt
    s.options s.patterns text number) in
    subst P c.self.view_is (λ below. IfOk-follow c.matches_with.result _ _ (λ b answer. MatchesAt-iff inside.options
    inside.patterns.items text number c.index-2.result.now b below c.index-2.ensures answer)
    c.matches_with.ensures.answer) c.requires.number

pub returns-clause-short : goal.returns-clause-short
returns-clause-short g c =
    let number = c.args.number in
    let inside = c.self.inside in
    let P : Set → Type 0 = λ s. number < length s.patterns → AreShort s.patterns → IsOk c.matches_with.result in
    subst P c.self.view_is (λ below short. c.matches_with.ensures.short (AreShort-at inside.patterns.items number
    c.index-2.result.now below c.index-2.ensures short)) c.requires.number
