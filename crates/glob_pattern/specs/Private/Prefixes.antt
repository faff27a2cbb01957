-- How far leading shapes reach: what the position sets of a match mean.
use Rattle.std.specs.Prelude.{◌≡◌, ℕ, zero, suc, ◌<◌, ◌≤◌, ◌≢◌, ◌⊎◌, List, drop, slice_index_or, IsTrue}
use Rattle.glob_pattern.specs.Matching.Splits.{Table, TakesAll, MayReach}
use Rattle.glob_pattern.specs.declared.matcher.Shape.{Shape}
use Rattle.glob_pattern.specs.declared.matcher.Shape.TheVariants.{One}

-- the first n shapes split the characters before place k
unfoldable pub PrefixSplits : Table → List Shape → (n k : ℕ) → Type 0
PrefixSplits table shapes zero k = k ≡ 0
PrefixSplits table shapes (suc n) k =
    (i : ℕ) × PrefixSplits table shapes n i
    × MayReach table (slice_index_or shapes n One) (drop (suc n) shapes) i k
    × TakesAll table n i k

-- Position n is alive at place k: the first n shapes split the characters up to there, or only up to an earlier place,
-- and the next shape, which is not `One`, has a piece from there on that may go on.
unfoldable pub IsAlive : Table → List Shape → (n k : ℕ) → Type 0
IsAlive table shapes n k =
    (i : ℕ) × (i ≤ k) × PrefixSplits table shapes n i × TakesAll table n i k
    × ((i ≡ k) ⊎ (slice_index_or shapes n One ≢ One))

-- position n was alive one place before k, and token n takes the character in between
unfoldable pub HasTaken : Table → List Shape → (n k : ℕ) → Type 0
HasTaken table shapes n zero = ⊥
HasTaken table shapes n (suc k) = IsAlive table shapes n k × IsTrue (table.takes n k)

-- at place k a position before `end` is alive, or all shapes before `end` split the characters up to there
abbrev pub IsAnyAlive : Table → List Shape → (end k : ℕ) → Type 0
IsAnyAlive table shapes end k = ((n : ℕ) × (n < end) × IsAlive table shapes n k) ⊎ PrefixSplits table shapes end k
