-- What a token and the tokens after it take from a place on, given what they take from the next place on.
use Rattle.std.proofs.Common.{◌≢◌, ℕ, ◌+◌, ◌<◌, ◌≤◌, ◌⊎◌, inl, inr, ⊎_elim, ◌||◌, not, List, [], ◌∷◌, IsTrue, refl, subst, arith}
use Rattle.std.proofs.lemmas.Bool.{cases_eq, false≢true}
use Rattle.glob_pattern.specs.Matching.Splits.{Table, MayReach, TakesAll, SplitsFrom}
use Rattle.glob_pattern.specs.declared.matcher.Shape.{Shape}
use Rattle.glob_pattern.specs.declared.matcher.Shape.TheVariants.{One, Run, Deep}
use Rattle.glob_pattern.proofs.MatchingLemmas.Splits.{MayReach-le, TakesAll-none, TakesAll-more, SplitsFrom-within}
use Rattle.glob_captures.specs.Private.Rests.{grows, closes}

-- a first piece that is not empty, by any table
abbrev pub More : Table → ℕ → Shape → (others : List Shape) → ℕ → Type 0
More table n shape others k =
    (j : ℕ) × (k < j) × MayReach table shape others k j × TakesAll table n k j × SplitsFrom table (n + 1) others j

-- a piece that is not empty may end at place j
abbrev pub MayEnd : Table → Shape → (others : List Shape) → ℕ → Type 0
MayEnd table shape others j = IsTrue (not (closes shape others) || table.opens j)

-- one character is taken, and the piece ends there or goes on
abbrev pub Steps : Table → ℕ → Shape → (others : List Shape) → ℕ → Type 0
Steps table n shape others k =
    ((SplitsFrom table (n + 1) others (k + 1) × MayEnd table shape others (k + 1))
    ⊎ (IsTrue (grows shape) × More table n shape others (k + 1))) × IsTrue (table.takes n k)

-- a piece of one character
reach-one : (table : Table) (shape : Shape) (others : List Shape) (k : ℕ) → MayEnd table shape others (k + 1)
    → MayReach table shape others k (k + 1)
reach-one table One others k end = refl
reach-one table Run others k end = omega arith
reach-one table Deep [] k end = (omega arith, inl refl)
reach-one table Deep (s ∷ ss) k end = (omega arith, inr (inr end))

-- a longer piece
reach-longer : (table : Table) (shape : Shape) (others : List Shape) (k j : ℕ) → IsTrue (grows shape) → k + 1 < j
    → MayReach table shape others (k + 1) j → MayReach table shape others k j
reach-longer table One others k j more low reach = absurd (false≢true more)
reach-longer table Run others k j more low reach = omega arith
reach-longer table Deep others k j more low (le, ends) =
    (omega arith, ⊎_elim (λ e. inl e) (⊎_elim (λ e. absurd (omega arith)) (λ h. inr (inr h))) ends)

pub More-from_steps : (table : Table) (n : ℕ) (shape : Shape) (others : List Shape) (k : ℕ) → Steps table n shape
    others k → More table n shape others k
More-from_steps table n shape others k (ways, takes) =
    ⊎_elim
    (λ (rest, end). (
      k + 1,
      omega arith,
      reach-one table shape others k end,
      TakesAll-more table n k (k + 1) takes
          (TakesAll-none table n (k + 1)),
      rest,
    ))
    (λ (more, (j, low, reach, took, rest)). (
      j,
      omega arith,
      reach-longer table shape others k j more low reach,
      TakesAll-more table n k j takes took,
      rest,
    ))
    ways

-- a piece of one character may end there
end-one : (table : Table) (shape : Shape) (others : List Shape) (k : ℕ) → MayReach table shape others k (k + 1)
    → MayEnd table shape others (k + 1)
end-one table One others k reach = refl
end-one table Run others k reach = refl
end-one table Deep [] k reach = refl
end-one table Deep (s ∷ ss) k (le, ends) =
    ⊎_elim (λ e. let none : s ∷ ss ≢ [] = λ h. cc in absurd (none e)) (⊎_elim (λ e. absurd (omega arith)) (λ h. h)) ends

-- a longer piece goes on from the next place
reach-shorter : (table : Table) (shape : Shape) (others : List Shape) (k j : ℕ) → k + 1 < j → MayReach table shape
    others k j → IsTrue (grows shape) × MayReach table shape others (k + 1) j
reach-shorter table One others k j low reach = absurd (omega arith)
reach-shorter table Run others k j low reach = (refl, omega arith)
reach-shorter table Deep others k j low (le, ends) =
    (refl, (omega arith, ⊎_elim (λ e. inl e) (⊎_elim (λ e. absurd (omega arith)) (λ h. inr (inr h))) ends))

pub steps-from_More : (table : Table) (n : ℕ) (shape : Shape) (others : List Shape) (k : ℕ) → More table n shape others
    k → Steps table n shape others k
steps-from_More table n shape others k (j, low, reach, took, rest) = (
  ⊎_elim
      (λ e. inl (
        subst (SplitsFrom table (n + 1) others) e rest,
        end-one table shape others k
            (subst (MayReach table shape others k) e reach),
      ))
      (λ other. let longer : k + 1 < j = omega arith in
      let shorter : IsTrue (grows shape) × MayReach table shape others (k + 1) j = reach-shorter table shape others k j longer reach in
      inr (shorter.0, (j, longer, shorter.1, (λ i from below. took i (omega arith) below), rest)))
      (cases_eq j (k + 1)),
  took k (omega arith) (omega arith),
)

-- a split begins with a piece that is not empty, or with an empty one
pub split-from_ways : (table : Table) (n : ℕ) (shape : Shape) (others : List Shape) (k : ℕ) → More table n shape others
    k ⊎ (IsTrue (grows shape) × SplitsFrom table (n + 1) others k) → SplitsFrom table n (shape ∷ others) k
split-from_ways table n shape others k (inl (j, low, reach, took, rest)) = (j, reach, took, rest)
split-from_ways table n One others k (inr (more, rest)) = absurd (false≢true more)
split-from_ways table n Run others k (inr (more, rest)) = (k, omega arith, TakesAll-none table n k, rest)
split-from_ways table n Deep others k (inr (more, rest)) = (k, (omega arith, inr (inl refl)), TakesAll-none table n k, rest)

-- an empty piece is of a shape that grows
grows-from_empty : (table : Table) (shape : Shape) (others : List Shape) (k : ℕ) → MayReach table shape others k k → IsTrue (grows shape)
grows-from_empty table One others k reach = absurd (omega arith)
grows-from_empty table Run others k reach = refl
grows-from_empty table Deep others k reach = refl

pub ways-from_split : (table : Table) (n : ℕ) (shape : Shape) (others : List Shape) (k : ℕ) → SplitsFrom table n
    (shape ∷ others) k → More table n shape others k ⊎ (IsTrue (grows shape) × SplitsFrom table (n + 1) others k)
ways-from_split table n shape others k (j, reach, took, rest) =
    ⊎_elim
    (λ e. inr (
      grows-from_empty table shape others k (subst (MayReach table shape others k) e reach),
      subst
          (SplitsFrom table (n + 1) others) e rest,
    ))
    (λ other. let low : k ≤ j = MayReach-le table shape others k j reach in inl (j, omega arith, reach, took, rest))
    (cases_eq j k)

-- nothing more is taken at the end
pub More-at_end : (table : Table) (n : ℕ) (shape : Shape) (others : List Shape) → ¬ (More table n shape others table.characters)
More-at_end table n shape others (j, low, reach, took, rest) = omega (arith, SplitsFrom-within table (n + 1) others j rest)
