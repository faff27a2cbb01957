use Rattle.std.proofs.Common.{◌≡◌, ℕ, ◌+◌, ◌<◌, ◌≤◌, ◌∙◌, List, Bor, ap, arith, drop, get_or, length, map, refl, sym, true}
use Rattle.std.proofs.lemmas.List.{drop_all, drop_more}
use Rattle.glob_set.proofs.ReadLemmas.{AreAccepted-all, accepted_more}
use Rattle.glob_text.specs.Text.{Text}
use Rattle.globs.specs.Find.Below.{are_below, is_below}
use Rattle.globs.proofs.find.below.check_patterns.Goals as goal

-- one more pattern leads below
below_more : (ps : List (Bor Text)) (i : ℕ) (d : Bor Text) → i < length ps → is_below (get_or ps i d).now ≡ true
    → are_below (map (λ p. p.now) (drop (i + 1) ps)) ≡ are_below (map (λ p. p.now) (drop i ps))
below_more ps i d less is = rw (drop_more ps i d less) (rw is refl)

-- all patterns lead below
below_all : (ps : List (Bor Text)) (i : ℕ) → length ps ≤ i → are_below (map (λ p. p.now) (drop i ps)) ≡ are_below (map (λ p. p.now) ps)
    → are_below (map (λ p. p.now) ps) ≡ true
below_all ps i end same = sym same ∙ ap (λ qs. are_below (map (λ p. p.now) qs)) (drop_all i ps end)

pub loop-pattern-preserved : goal.loop-pattern-preserved
loop-pattern-preserved g c =
    let l = c.loop-pattern in
    record {
      below = below_more c.args.patterns.now l.pattern-index _ (omega arith) c.in_ok-check_pattern.ensures.below ∙ l.invariant.below;
      accepted = accepted_more (λ p. p.now) c.args.patterns.now l.pattern-index _ (omega arith)
          c.in_ok-check_pattern.ensures.accepted l.invariant.accepted;
    }

pub returns-clause-below : goal.returns-clause-below
returns-clause-below g c =
    let l = c.loop-pattern in
    below_all c.args.patterns.now l.pattern-index (omega arith) l.invariant.below

pub returns-clause-accepted : goal.returns-clause-accepted
returns-clause-accepted g c =
    let l = c.loop-pattern in
    AreAccepted-all (λ p. p.now) c.args.patterns.now l.pattern-index (omega arith) l.invariant.accepted
