-- The patterns without a key that may match a text of a class.
use Rattle.std.specs.Prelude.{◌≡◌, ◌≢◌, ℕ, ◌<◌, ◌⊎◌, List, [], ◌∷◌, ◌++◌, length, map, set, slice_index_or, Option}
use Rattle.std.specs.Prelude.{Some, None, IsNone, IsSomeAnd, All, Contains}
use Rattle.std.specs.List.Sorted.{IsNonDecreasing}
use Rattle.glob_set.specs.declared.key.Key.{Key}
use Rattle.glob_set.specs.declared.pairs.Need.{Need}

-- ascending numbers of patterns below n, with all that have no key and do not need another class
pub record IsBucket (needs : List Need) (keys : List (Option Key)) (class n : ℕ) (numbers : List ℕ) : Type 0 where
  pub within : All (λ k. k < n) numbers
  pub order : IsNonDecreasing numbers
  pub all : (k : ℕ) (d : Need) → k < n → IsNone (slice_index_or keys k None)
      → Contains numbers k ⊎ IsSomeAnd (slice_index_or needs k d).class (λ known. known ≢ class)

-- a bucket for each class, for the patterns below n
pub record AreBuckets (needs : List Need) (keys : List (Option Key)) (n : ℕ) (buckets : List (List ℕ)) : Type 0 where
  pub as_many : length buckets ≡ 128
  pub each : (class : ℕ) → class < 128 → IsBucket needs keys class n (slice_index_or buckets class [])

-- the number added to the bucket of the class, or to all buckets if there is no class
abbrev pub with_number : (number : ℕ) → (class : Option ℕ) → (buckets : List (List ℕ)) → List (List ℕ)
with_number number None buckets = map (λ numbers. numbers ++ number ∷ []) buckets
with_number number (Some class) buckets = set buckets class (slice_index_or buckets class [] ++ number ∷ [])

-- the number added, unless it would be the first
abbrev pub with_another : (number : ℕ) → (numbers : List ℕ) → List ℕ
with_another number [] = []
with_another number (first ∷ others) = first ∷ others ++ number ∷ []

-- all numbers below n, ascending
pub record IsAll (n : ℕ) (numbers : List ℕ) : Type 0 where
  pub within : All (λ k. k < n) numbers
  pub order : IsNonDecreasing numbers
  pub all : (k : ℕ) → k < n → Contains numbers k
