-- Splits of characters into one piece per shape, for any table of which token takes which character.
use Rattle.std.specs.Prelude.{◌≡◌, ℕ, ◌+◌, ◌<◌, ◌≤◌, ◌⊎◌, Bool, List, [], ◌∷◌, IsTrue}
use Rattle.glob_pattern.specs.declared.matcher.Shape.{Shape}
use Rattle.glob_pattern.specs.declared.matcher.Shape.TheVariants.{One, Run, Deep}

-- What a judge answers: the numbers of characters and tokens, where components begin, and whether a token takes the
-- character at a place.
pub record Table : Type 0 where
  pub characters : ℕ
  pub tokens : ℕ
  pub opens : (place : ℕ) → Bool
  pub takes : (token : ℕ) → (place : ℕ) → Bool

-- the token takes each character from place i up to place j
abbrev pub TakesAll : Table → (token : ℕ) → ℕ → ℕ → Type 0
TakesAll table token i j = (k : ℕ) → i ≤ k → k < j → IsTrue (table.takes token k)

-- The piece of a shape before the shapes `others` may go from place i up to place j. `One` is one character, `Run` any
-- number. `Deep` is any number too, but if shapes follow, it is empty or a component begins at its end.
abbrev pub MayReach : Table → Shape → (others : List Shape) → ℕ → ℕ → Type 0
MayReach table One others i j = j ≡ i + 1
MayReach table Run others i j = i ≤ j
MayReach table Deep others i j = (i ≤ j) × ((others ≡ []) ⊎ (j ≡ i) ⊎ IsTrue (table.opens j))

-- the characters from place i on split into one piece per shape; the tokens of the shapes are numbered from n on
abbrev pub SplitsFrom : Table → ℕ → List Shape → ℕ → Type 0
SplitsFrom table n [] i = i ≡ table.characters
SplitsFrom table n (shape ∷ shapes) i =
    (j : ℕ) × MayReach table shape shapes i j × TakesAll table n i j
    × SplitsFrom table (n + 1) shapes j

-- all characters split into one piece per shape
abbrev pub Splits : Table → List Shape → Type 0
Splits table shapes = SplitsFrom table 0 shapes 0
