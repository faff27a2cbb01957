use Rattle.std.proofs.Common.{◌≡◌, ℕ, ◌+◌, ◌<◌, ◌≤◌, ◌∙◌, List, Bor, ap, arith, drop, false, get_or, length, map, refl, sym, true}
use Rattle.std.proofs.lemmas.List.{drop_all, drop_more}
use Rattle.glob_text.specs.Text.{Text}
use Rattle.globs.specs.Find.Below.{are_below, is_below}
use Rattle.globs.proofs.find.below.are_below.Goals as goal

-- one more pattern leads below
below_more : (ps : List (Bor Text)) (i : ℕ) (d : Bor Text) → i < length ps → is_below (get_or ps i d).now ≡ true
    → are_below (map (λ p. p.now) (drop (i + 1) ps)) ≡ are_below (map (λ p. p.now) (drop i ps))
below_more ps i d less is = rw (drop_more ps i d less) (rw is refl)

-- one pattern leads elsewhere
below_not : (ps : List (Bor Text)) (i : ℕ) (d : Bor Text) → i < length ps → is_below (get_or ps i d).now ≡ false
    → are_below (map (λ p. p.now) (drop i ps)) ≡ are_below (map (λ p. p.now) ps) → false ≡ are_below (map (λ p. p.now) ps)
below_not ps i d less not same =
    let here : are_below (map (λ p. p.now) (drop i ps)) ≡ false = rw (drop_more ps i d less) (rw not refl) in
    sym here ∙ same

-- all patterns lead below
below_all : (ps : List (Bor Text)) (i : ℕ) → length ps ≤ i → are_below (map (λ p. p.now) (drop i ps)) ≡ are_below (map (λ p. p.now) ps)
    → true ≡ are_below (map (λ p. p.now) ps)
below_all ps i end same = sym (ap (λ qs. are_below (map (λ p. p.now) qs)) (drop_all i ps end)) ∙ same

pub loop-pattern-preserved : goal.loop-pattern-preserved
loop-pattern-preserved c =
    let l = c.loop-pattern in
    below_more c.args.patterns.now l.pattern-index _ (omega arith) (sym c.is_below.ensures ∙ c.if-not-is_below.false) ∙ l.invariant

pub returns-then-not-is_below : goal.returns-then-not-is_below
returns-then-not-is_below c =
    let l = c.loop-pattern in
    below_not c.args.patterns.now l.pattern-index _ (omega arith) (sym c.is_below.ensures ∙ c.if-not-is_below.true) l.invariant

pub returns : goal.returns
returns c =
    let l = c.loop-pattern in
    below_all c.args.patterns.now l.pattern-index (omega arith) l.invariant
