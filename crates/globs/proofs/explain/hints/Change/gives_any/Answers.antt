use Rattle.std.proofs.Common.{◌≡◌, ◌<◌, ◌+◌, ◌∙◌, ℕ, List, arith, get_or, length, subst, suc, sym, take}
use Rattle.std.specs.Prelude.{All}
use Rattle.std.proofs.Math.Seq.{take-suc}
use Rattle.std.proofs.lemmas.Bool.{false≢true}
use Rattle.std.proofs.lemmas.List.{take_all}
use Rattle.std.proofs.lemmas.List.Elements.{All-map, All-push, Contains-get_or}
use Rattle.glob_walk.proofs.GoalLemmas.FoundParts.{map-contains}
use Rattle.globs.specs.Explain.Hints.{GivesMatch}
use Rattle.globs.proofs.explain.hints.Change.gives_any.Goals as goal

-- one more element lacks the property
none_more : {X : Type 0} (P : X → Type 0) (xs : List X) (i : ℕ) (d : X) → i < length xs → P (get_or xs i d) →
    All P (take i xs) → All P (take (i + 1) xs)
none_more P xs i d within is before =
    let next : suc i ≡ i + 1 = omega arith in
    subst (λ n. All P (take n xs)) next (subst (All P) (sym (take-suc xs i d within)) (All-push P (take i xs) _ before is))

pub loop-pattern-preserved : goal.loop-pattern-preserved
loop-pattern-preserved g c =
    let l = c.loop-pattern in
    none_more (λ p. ¬ (GivesMatch c.args.self c.args.options p.now c.args.text.now)) c.args.patterns.now l.pattern-index _ (omega arith)
    (λ found. false≢true (sym c.if-branch.false ∙ c.in_ok-gives_match.ensures.1 found)) l.invariant

pub returns-then-branch-clause-some : goal.returns-then-branch-clause-some
returns-then-branch-clause-some g c = λ _. (
  _,
  map-contains (λ p. p.now) c.args.patterns.now _ (Contains-get_or c.args.patterns.now c.loop-pattern.pattern-index _ (omega arith)),
  c.in_ok-gives_match.ensures.0 c.if-branch.true,
)

pub returns-clause-none : goal.returns-clause-none
returns-clause-none g c = λ _.
    All-map (λ p. ¬ (GivesMatch c.args.self c.args.options p c.args.text.now)) (λ p. p.now) c.args.patterns.now
    (subst (All (λ p. ¬ (GivesMatch c.args.self c.args.options p.now c.args.text.now)))
    (take_all c.loop-pattern.pattern-index c.args.patterns.now (omega arith)) c.loop-pattern.invariant)
