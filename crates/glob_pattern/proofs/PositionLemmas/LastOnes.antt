-- Splits by leading shapes depend only on the characters before a place; a one-character shape needs a character.
use Rattle.std.proofs.Common.{◌≡◌, ℕ, zero, suc, ◌+◌, ◌<◌, ◌≤◌, ◌↔◌, List, get_or, IsTrue, sym, subst, ◌∙◌, inl, inr, ⊎_elim, arith}
use Rattle.glob_pattern.specs.Matching.Splits.{Table, MayReach}
use Rattle.glob_pattern.specs.Private.Prefixes.{PrefixSplits}
use Rattle.glob_pattern.specs.declared.matcher.Shape.{Shape}
use Rattle.glob_pattern.specs.declared.matcher.Shape.TheVariants.{One, Run, Deep}
use Rattle.glob_pattern.proofs.MatchingLemmas.Splits.{MayReach-le}

-- the two tables agree on the first m tokens and the characters before place k
pub record SameBefore (table other : Table) (m k : ℕ) : Type 0 where
  pub takes : (n j : ℕ) → n < m → j < k → table.takes n j ≡ other.takes n j
  pub opens : (j : ℕ) → j ≤ k → table.opens j ≡ other.opens j

pub SameBefore-back : (table other : Table) (m k : ℕ) → SameBefore table other m k → SameBefore other table m k
SameBefore-back table other m k same = record { takes = λ n j few lt. sym (same.takes n j few lt); opens = λ j le. sym (same.opens j le) }

MayReach-same : (table other : Table) (shape : Shape) (others : List Shape) (i j : ℕ) → table.opens j ≡ other.opens j
    → MayReach table shape others i j → MayReach other shape others i j
MayReach-same table other One others i j same reach = reach
MayReach-same table other Run others i j same reach = reach
MayReach-same table other Deep others i j same (le, ends) =
    (le, ⊎_elim inl (λ more. inr (⊎_elim inl (λ opens. inr (sym same ∙ opens)) more)) ends)

-- so the same tokens split the same characters
PrefixSplits-other : (table other : Table) (shapes : List Shape) (m until n k : ℕ) → SameBefore table other m until → n ≤ m → k ≤ until
    → PrefixSplits table shapes n k → PrefixSplits other shapes n k
unfolding PrefixSplits
PrefixSplits-other table other shapes m until zero k same few le prefix = prefix
PrefixSplits-other table other shapes m until (suc n) k same few le (i, prefix, reach, all) =
    let from = MayReach-le table (get_or shapes n One) _ i k reach in (
      i,
      PrefixSplits-other table other shapes m until n i same (omega (arith, few)) (omega arith) prefix,
      MayReach-same table other (get_or shapes n One) _ i k (same.opens k le) reach,
      λ j low high. sym (same.takes n j few (omega arith)) ∙ all j low high,
    )

pub PrefixSplits-same : (table other : Table) (shapes : List Shape) (n k : ℕ) → SameBefore table other n k
    → PrefixSplits table shapes n k ↔ PrefixSplits other shapes n k
PrefixSplits-same table other shapes n k same = (
  PrefixSplits-other table other shapes n k n k same (omega arith) (omega arith),
  PrefixSplits-other other table shapes n k n k (SameBefore-back table other n k same) (omega arith) (omega arith),
)

-- a first one-character shape has a character to take
pub some-first : (table : Table) (shapes : List Shape) (n k : ℕ) → get_or shapes 0 One ≡ One → PrefixSplits table shapes (suc n) k → 0 < k
unfolding PrefixSplits
some-first table shapes zero k one (i, start, reach, all) = let next : k ≡ i + 1 = rw one at reach in omega arith
some-first table shapes (suc n) k one (i, prefix, reach, all) =
    let some = some-first table shapes n i one prefix in
    let le = MayReach-le table (get_or shapes (suc n) One) _ i k reach in omega arith

module _ (table : Table) (shapes : List Shape) where
  -- a last one-character shape has taken the last character
  pub one-from_PrefixSplits : (n k : ℕ) → get_or shapes n One ≡ One → PrefixSplits table shapes (suc n) (suc k)
      → IsTrue (table.takes n k) × PrefixSplits table shapes n k
  unfolding PrefixSplits
  one-from_PrefixSplits n k one (i, prefix, reach, all) =
      let next : suc k ≡ i + 1 = rw one at reach in
      let at : i ≡ k = omega arith in
      (all k (omega arith) (omega arith), subst (PrefixSplits table shapes n) at prefix)

  -- and a one-character shape that takes the next character may be added
  pub PrefixSplits-one : (n k : ℕ) → get_or shapes n One ≡ One → IsTrue (table.takes n k) → PrefixSplits table shapes n
      k → PrefixSplits table shapes (suc n) (suc k)
  unfolding PrefixSplits
  PrefixSplits-one n k one takes prefix =
      (k, prefix, rw one (omega arith), λ j low high. let at : k ≡ j = omega arith in subst (λ p. IsTrue (table.takes n p)) at takes)
