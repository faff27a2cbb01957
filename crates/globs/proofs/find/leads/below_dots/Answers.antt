use Rattle.std.proofs.Common.{◌≡◌, ◌∙◌, ◌<◌, ◌⊎◌, ◌∷◌, List, ℕ, ap, arith, inl, inr, length, rules}
use Rattle.globs.proofs.LeadLemmas.{dots_end, dots_more}
use Rattle.globs.proofs.find.leads.below_dots.Goals as goal

-- what follows is shorter
shorter : (text after : List ℕ) → (text ≡ 46 ∷ 47 ∷ after) ⊎ (text ≡ 46 ∷ 46 ∷ 47 ∷ after) → length after < length text
shorter text after (inl is) = omega (arith, ap length is)
shorter text after (inr is) = omega (arith, ap length is)

pub loop-after-preserved : goal.loop-after-preserved
loop-after-preserved c =
    let l = c.loop-after in
    (search rules, dots_more l.below.now c.in-Some.after.now c.in-Some.ensures ∙ l.invariant.1)

pub loop-after-smaller : goal.loop-after-smaller
loop-after-smaller c = shorter _ _ c.in-Some.ensures

pub returns : goal.returns
returns c =
    let l = c.loop-after in
    dots_end l.below.now c.in_default.ensures ∙ l.invariant.1
