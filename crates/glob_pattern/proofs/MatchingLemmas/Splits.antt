-- Splits over any table: their places, and how one character extends a first piece.
use Rattle.std.proofs.Common.{◌≡◌, ℕ, zero, suc, ◌+◌, ◌<◌, ◌≤◌, ◌⊎◌, inl, inr, ⊎_elim, List, [], ◌∷◌, replicate, IsTrue}
use Rattle.std.proofs.Common.{refl, sym, subst, subst₂, arith, le_of_eq, le_trans, add-zero}
use Rattle.std.proofs.lemmas.Bool.{cases_eq}
use Rattle.glob_pattern.specs.Matching.Splits.{Table, MayReach, TakesAll, SplitsFrom}
use Rattle.glob_pattern.specs.declared.matcher.Shape.{Shape}
use Rattle.glob_pattern.specs.declared.matcher.Shape.TheVariants.{One, Run, Deep}

-- a piece does not end before it begins
pub MayReach-le : (table : Table) (shape : Shape) (others : List Shape) (i j : ℕ) → MayReach table shape others i j → i ≤ j
MayReach-le table One others i j h = omega arith
MayReach-le table Run others i j h = h
MayReach-le table Deep others i j h = h.0

-- pieces are among the characters
pub SplitsFrom-within : (table : Table) (n : ℕ) (shapes : List Shape) (i : ℕ) → SplitsFrom table n shapes i → i ≤ table.characters
SplitsFrom-within table n [] i h = le_of_eq h
SplitsFrom-within table n (shape ∷ shapes) i (j, reach, took, rest) =
    le_trans (MayReach-le table shape shapes i j reach) (SplitsFrom-within table (n + 1) shapes j rest)

-- from a place up to itself nothing is taken
pub TakesAll-none : (table : Table) (n i : ℕ) → TakesAll table n i i
TakesAll-none table n i k low high = absurd (omega arith)

-- one character more at the front
pub TakesAll-more : (table : Table) (n i j : ℕ) → IsTrue (table.takes n i) → TakesAll table n (i + 1) j → TakesAll table n i j
TakesAll-more table n i j took rest k low high =
    ⊎_elim (λ e. subst (λ q. IsTrue (table.takes n q)) (sym e) took) (λ other. rest k (omega arith) high) (cases_eq k i)

-- a first token that takes any number of characters from place i on
abbrev pub SplitsMany : Table → ℕ → List Shape → ℕ → Type 0
SplitsMany table n shapes i = (j : ℕ) × (i ≤ j) × TakesAll table n i j × SplitsFrom table (n + 1) shapes j

-- a first token that takes one or more characters from place i on, up to where a component begins
abbrev pub SplitsClosed : Table → ℕ → List Shape → ℕ → Type 0
SplitsClosed table n shapes i =
    (j : ℕ) × (i < j) × IsTrue (table.opens j) × TakesAll table n i j × SplitsFrom table (n + 1) shapes j

-- a one-character token splits off one character
pub SplitsFrom-one : (table : Table) (n : ℕ) (shapes : List Shape) (i : ℕ) → IsTrue (table.takes n i)
    × SplitsFrom table (n + 1) shapes (i + 1) → SplitsFrom table n (One ∷ shapes) i
SplitsFrom-one table n shapes i (took, rest) = (i + 1, refl, TakesAll-more table n i (i + 1) took (TakesAll-none table n (i + 1)), rest)

-- a one-character token splits off nothing else
pub one-from_SplitsFrom : (table : Table) (n : ℕ) (shapes : List Shape) (i : ℕ) → SplitsFrom table n (One ∷ shapes) i
    → IsTrue (table.takes n i) × SplitsFrom table (n + 1) shapes (i + 1)
one-from_SplitsFrom table n shapes i (j, e, took, rest) = (
  took i (omega arith) (omega arith),
  subst (SplitsFrom table
      (n + 1) shapes) e rest,
)

-- such a split begins within the text
pub SplitsMany-within : (table : Table) (n : ℕ) (shapes : List Shape) (i : ℕ) → SplitsMany table n shapes i → i ≤ table.characters
SplitsMany-within table n shapes i (j, low, took, rest) = le_trans low (SplitsFrom-within table (n + 1) shapes j rest)

-- such a split begins before the end of the text
pub SplitsClosed-within : (table : Table) (n : ℕ) (shapes : List Shape) (i : ℕ) → SplitsClosed table n shapes i → i < table.characters
SplitsClosed-within table n shapes i (j, low, opens, took, rest) = le_trans low (SplitsFrom-within table (n + 1) shapes j rest)

-- no character is taken, or one and then any number
pub SplitsMany-cases : (table : Table) (n : ℕ) (shapes : List Shape) (i : ℕ) → SplitsMany table n shapes i
    → SplitsFrom table (n + 1) shapes i ⊎ (IsTrue (table.takes n i) × SplitsMany table n shapes (i + 1))
SplitsMany-cases table n shapes i (j, low, took, rest) =
    ⊎_elim (λ e. inl (subst (SplitsFrom table (n + 1) shapes) (sym e) rest))
    (λ other. inr (took i (omega arith) (omega arith), (j, omega arith, (λ k l h. took k (omega arith) h), rest)))
    (cases_eq i j)

-- the converse
pub SplitsMany-from : (table : Table) (n : ℕ) (shapes : List Shape) (i : ℕ) → SplitsFrom table (n + 1) shapes i ⊎
    (IsTrue (table.takes n i) × SplitsMany table n shapes (i + 1)) → SplitsMany table n shapes i
SplitsMany-from table n shapes i =
    ⊎_elim (λ rest. (i, omega arith, TakesAll-none table n i, rest))
    (λ more. (more.1.0, omega (arith, more.1.1), TakesAll-more table n i more.1.0 more.0 more.1.2, more.1.3))

-- one character is taken, and the piece ends there or goes on
pub SplitsClosed-cases : (table : Table) (n : ℕ) (shapes : List Shape) (i : ℕ) → SplitsClosed table n shapes i → IsTrue
    (table.takes n i) × ((IsTrue (table.opens (i + 1)) × SplitsFrom table (n + 1) shapes (i + 1)) ⊎ SplitsClosed table
    n shapes (i + 1))
SplitsClosed-cases table n shapes i (j, low, opens, took, rest) = (
  took i (omega arith) (omega arith),
  ⊎_elim (λ e. inl (subst (λ k. IsTrue (table.opens k)) (sym e) opens, subst (SplitsFrom table (n + 1) shapes) (sym e) rest))
      (λ other. inr (j, omega arith, opens, (λ k l h. took k (omega arith) h), rest))
      (cases_eq (i + 1) j),
)

-- the converse
pub SplitsClosed-from : (table : Table) (n : ℕ) (shapes : List Shape) (i : ℕ) → IsTrue (table.takes n i) ×
    ((IsTrue (table.opens (i + 1)) × SplitsFrom table (n + 1) shapes (i + 1)) ⊎ SplitsClosed table n shapes (i + 1))
    → SplitsClosed table n shapes i
SplitsClosed-from table n shapes i (took, more) =
    ⊎_elim (λ here. (i + 1, omega arith, here.0, TakesAll-more table n i (i + 1) took (TakesAll-none table n (i + 1)), here.1))
    (λ later. (later.0, omega (arith, later.1), later.2, TakesAll-more table n i later.0 took later.3, later.4)) more

-- a `**` that is the last takes any number of characters
pub SplitsFrom-last_deep : (table : Table) (n i : ℕ) → SplitsMany table n [] i → SplitsFrom table n (Deep ∷ []) i
SplitsFrom-last_deep table n i (j, low, took, rest) = (j, (low, inl refl), took, rest)

-- a last `**` does nothing else
pub many-from_last_deep : (table : Table) (n i : ℕ) → SplitsFrom table n (Deep ∷ []) i → SplitsMany table n [] i
many-from_last_deep table n i (j, reach, took, rest) = (j, reach.0, took, rest)

-- the piece of a `**` before other tokens is empty or ends where a component begins
pub SplitsFrom-deep : (table : Table) (n : ℕ) (shape : Shape) (shapes : List Shape) (i : ℕ) → SplitsFrom table (n + 1)
    (shape ∷ shapes) i ⊎ SplitsClosed table n (shape ∷ shapes) i → SplitsFrom table n (Deep ∷ shape ∷ shapes) i
SplitsFrom-deep table n shape shapes i =
    ⊎_elim (λ rest. (i, (omega arith, inr (inl refl)), TakesAll-none table n i, rest))
    (λ closed. (closed.0, (omega (arith, closed.1), inr (inr closed.2)), closed.3, closed.4))

-- it does nothing else
pub deep-from_SplitsFrom : (table : Table) (n : ℕ) (shape : Shape) (shapes : List Shape) (i : ℕ) → SplitsFrom table n
    (Deep ∷ shape ∷ shapes) i → SplitsFrom table (n + 1) (shape ∷ shapes) i ⊎ SplitsClosed table n (shape ∷ shapes) i
deep-from_SplitsFrom table n shape shapes i (j, reach, took, rest) =
    ⊎_elim (λ e. inl (subst (SplitsFrom table (n + 1) (shape ∷ shapes)) (sym e) rest))
    (λ other. inr (
      j,
      omega (arith, reach.0),
      ⊎_elim (λ e. absurd (no_shape shape shapes e))
          (⊎_elim (λ e. absurd (other (sym e))) (λ o. o)) reach.1,
      took,
      rest,
    ))
    (cases_eq i j)
  where
    no_shape : (s : Shape) (ss : List Shape) → s ∷ ss ≡ [] → ⊥
    no_shape s ss e = cc

-- tokens that take one character each take the characters one by one, up to the end
pub SplitsFrom-ones : (table : Table) (m n i : ℕ) → i + m ≡ table.characters → ((k : ℕ) → k < m → IsTrue
    (table.takes (n + k) (i + k))) → SplitsFrom table n (replicate m One) i
SplitsFrom-ones table zero n i e took = omega arith
SplitsFrom-ones table (suc m) n i e took =
    let first : IsTrue (table.takes n i) = subst₂ (λ x y. IsTrue (table.takes x y)) (add-zero n) (add-zero i) (took 0 (omega arith)) in
    SplitsFrom-one table n (replicate m One) i (
      first,
      SplitsFrom-ones table m (n + 1) (i + 1) (omega arith) (λ k l. subst₂ (λ x y. IsTrue (table.takes x y))
          (next n k) (next i k) (took (suc k) (omega arith))),
    )
  where
    next : (a k : ℕ) → a + suc k ≡ a + 1 + k
    next a k = omega arith

-- they do nothing else
pub ones-from_SplitsFrom : (table : Table) (m n i : ℕ) → SplitsFrom table n (replicate m One) i →
    (i + m ≡ table.characters) × ((k : ℕ) → k < m → IsTrue (table.takes (n + k) (i + k)))
ones-from_SplitsFrom table zero n i h = (omega arith, λ k l. absurd (omega arith))
ones-from_SplitsFrom table (suc m) n i h =
    let one : IsTrue (table.takes n i) × SplitsFrom table (n + 1) (replicate m One) (i + 1) = one-from_SplitsFrom table
    n (replicate m One) i h in
    let rest : (i + 1 + m ≡ table.characters) × ((k : ℕ) → k < m → IsTrue (table.takes (n + 1 + k) (i + 1 + k))) =
    ones-from_SplitsFrom table m (n + 1) (i + 1) one.1 in
    (omega (arith, rest.0), took one.0 rest.1)
  where
    next : (a k : ℕ) → a + 1 + k ≡ a + suc k
    next a k = omega arith

    took : IsTrue (table.takes n i) → ((k : ℕ) → k < m → IsTrue (table.takes (n + 1 + k) (i + 1 + k))) → (k : ℕ)
        → k < suc m → IsTrue (table.takes (n + k) (i + k))
    took first later zero l = subst₂ (λ x y. IsTrue (table.takes x y)) (sym (add-zero n)) (sym (add-zero i)) first
    took first later (suc k) l = subst₂ (λ x y. IsTrue (table.takes x y)) (next n k) (next i k) (later k (omega arith))
