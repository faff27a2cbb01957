-- Position sets as words of bits, over the shapes before an end. Other shapes may follow the end. Each word has 63
-- shapes, and its last bit is the position after them, which is the first one of the next word.
use Rattle.std.specs.Prelude.{◌≡◌, ℕ, suc, ◌+◌, ◌-◌, ◌*◌, ◌/◌, ◌^◌, ◌<◌, ◌≤◌, ◌≢◌, ◌⊎◌, ◌↔◌, Bool, List, length, min}
use Rattle.std.specs.Prelude.{slice_index, slice_index_or, IsTrue}
use Rattle.std.specs.Int.{IsBitSet}
use Rattle.glob_pattern.specs.Matching.Splits.{Table, TakesAll}
use Rattle.glob_pattern.specs.Private.Prefixes.{PrefixSplits, IsAlive, HasTaken, IsAnyAlive}
use Rattle.glob_pattern.specs.declared.matcher.Shape.{Shape}
use Rattle.glob_pattern.specs.declared.matcher.Shape.TheVariants.{One, Deep}
use Rattle.glob_pattern.specs.declared.matcher.positions.Span.{Span}
use Rattle.glob_pattern.specs.declared.matcher.shape_word.ShapeWord.{ShapeWord}

-- where the word that begins at `start` ends: 63 shapes on, or at the end of all shapes
abbrev pub word_end : (end start : ℕ) → ℕ
word_end end start = min (start + 63) end

-- the number of the word with the last shape before `end`, or 0 if there is no such shape
abbrev pub word_before : (end : ℕ) → ℕ
word_before end = (end - 1) / 63

-- The bits say which shapes there are from number `start` up to `end`, which may have pieces of any length, and which
-- are `Deep` with shapes after them.
pub record HasShapes (shapes : List Shape) (start end : ℕ) (word : ShapeWord) : Type 0 where
  pub tokens : (j : ℕ) → j < 64 → IsBitSet word.tokens j ↔ (start + j < end)
  pub wildcards : (j : ℕ) → j < 64
      → IsBitSet word.wildcards j ↔ ((start + j < end) × (slice_index_or shapes (start + j) One ≢ One))
  pub recursive : (j : ℕ) → j < 64
      → IsBitSet word.recursive j
      ↔ ((start + j < end) × (slice_index_or shapes (start + j) One ≡ Deep)
      × (start + j + 1 < length shapes))

-- the bits are of the shapes from number `start` on, at most 63
abbrev pub IsShapeWord : List Shape → (end start : ℕ) → ShapeWord → Type 0
IsShapeWord shapes end start word = HasShapes shapes start (word_end end start) word

-- the words are of all shapes before `end`, 63 in each but the last
pub record AreShapeWords (shapes : List Shape) (end : ℕ) (words : List ShapeWord) : Type 0 where
  pub within : end ≤ length shapes
  pub some : 0 < length words
  pub all : end ≤ 63 * length words
  pub few : 63 * (length words - 1) ≤ end
  pub word : (i : ℕ) (d : ShapeWord) → i < length words → IsShapeWord shapes end (63 * i) (slice_index_or words i d)

-- the word says which positions from `start` on are alive at place k, and whether the shapes before its end split the
-- characters up to there
pub record IsAliveWord (table : Table) (shapes : List Shape) (end start k word : ℕ) : Type 0 where
  pub alive : (j : ℕ) → start + j < word_end end start → IsBitSet word j ↔ IsAlive table shapes (start + j) k
  pub whole : (j : ℕ) → start + j ≡ word_end end start
      → IsBitSet word j ↔ PrefixSplits table shapes (word_end end start) k

-- the word says which tokens from `start` on have taken the character before place k
pub record IsTakenWord (table : Table) (shapes : List Shape) (end start k word : ℕ) : Type 0 where
  pub taken : (j : ℕ) → start + j < word_end end start → IsBitSet word j ↔ HasTaken table shapes (start + j) k

-- the words from number `low` up to `high` say what is alive at place k
pub record AreAlive (table : Table) (shapes : List Shape) (end k low high : ℕ) (alive : List ℕ) : Type 0 where
  pub word : (i : ℕ) → low ≤ i → i < high → IsAliveWord table shapes end (63 * i) k (slice_index alive i)

-- pieces may end anywhere, and no two wildcards are neighbours
pub record IsFlat (word : ShapeWord) : Type 0 where
  pub free : (j : ℕ) → ¬ (IsBitSet word.recursive j)
  pub apart : (j : ℕ) → IsBitSet word.wildcards j → ¬ (IsBitSet word.wildcards (suc j))

-- A step gives the word `next` at any place k. `took` has the tokens that took the character before it, `opens` says
-- whether a component begins there, and `whole` whether the shapes before `start` split the characters up to there.
abbrev pub LeadsTo : ShapeWord → (took : ℕ) → (opens whole : Bool) → (next : ℕ) → Type 0
LeadsTo word took opens whole next =
    (table : Table) (shapes : List Shape) (end start k : ℕ)
    → start ≤ end → end ≤ length shapes → IsShapeWord shapes end start word
    → IsTakenWord table shapes end start k took → opens ≡ table.opens k
    → IsTrue whole ↔ PrefixSplits table shapes start k → IsAliveWord table shapes end start k next

-- the shape is the last before `end`, and its pieces may have any length and end anywhere
pub record EndsFreely (shapes : List Shape) (end n : ℕ) : Type 0 where
  pub last : suc n ≡ end
  pub grows : slice_index_or shapes n One ≢ One
  pub ends : slice_index_or shapes n One ≡ Deep → end ≡ length shapes

-- such a shape whose token takes all characters
pub record TakesRest (table : Table) (shapes : List Shape) (end n : ℕ) : Type 0 where
  pub free : EndsFreely shapes end n
  pub takes : TakesAll table n 0 table.characters

-- what a run over a span needs from a judge at place k that was asked `count` questions
pub record CanRun (table : Table) (shapes : List Shape) (words : List ShapeWord) (span : Span) (k count : ℕ) : Type 0 where
  pub shaped : AreShapeWords shapes span.end words
  pub fits : span.end < 2 ^ 64
  pub tokens : span.end ≤ table.tokens
  pub place : k ≡ 0
  pub accepting : (j : ℕ) → IsBitSet span.accepting j → TakesRest table shapes span.end (63 * word_before span.end + j)
  pub room : count + span.end * table.characters < 2 ^ 128

-- A run that began after `first` questions is at place k after `count` questions, and the words say what is alive
-- there.
pub record HasRun (table : Table) (shapes : List Shape) (end first k count : ℕ) (words : List ℕ) : Type 0 where
  pub alive : AreAlive table shapes end k 0 (length words) words
  pub within : k ≤ table.characters
  pub most : count + end * (table.characters - k) ≤ first + end * table.characters
  pub least : IsAnyAlive table shapes end k → first + k ≤ count
  pub monotone : first ≤ count

-- The tokens from number `start` up to `end` were asked about the character before place k. The count went from
-- `before` to `count`: up by at most one per token, and by at least one if a token took the character.
pub record WereAsked (table : Table) (shapes : List Shape) (start end k before count : ℕ) : Type 0 where
  pub monotone : before ≤ count
  pub most : count ≤ before + (end - start)
  pub least : (n : ℕ) → start ≤ n → n < end → HasTaken table shapes n k → before < count

-- The tokens of word i can be asked about the character before place k, after `count` questions. `alive` says what was
-- alive at the place before.
pub record CanAsk (table : Table) (shapes : List Shape) (end : ℕ) (word : ShapeWord) (i alive k count : ℕ) : Type 0 where
  pub stepped : 0 < k
  pub from : 63 * i ≤ end
  pub within : end ≤ length shapes
  pub shaped : IsShapeWord shapes end (63 * i) word
  pub fits : end < 2 ^ 64
  pub tokens : end ≤ table.tokens
  pub before : IsAliveWord table shapes end (63 * i) (k - 1) alive
  pub room : count + (word_end end (63 * i) - 63 * i) < 2 ^ 128

-- of the words before number `end`, only those from number `low` up to `high` can be other than 0
pub record IsLive (words : List ℕ) (end low high : ℕ) : Type 0 where
  pub within : low ≤ length words
  pub none : (i : ℕ) → i < end → ((i < low) ⊎ (high ≤ i)) → slice_index words i ≡ 0

-- the words can be stepped to place k after `count` questions; those from number `low` up to `high` are live
pub record CanStep (table : Table) (shapes : List Shape) (end : ℕ) (words : List ShapeWord) (alive : List ℕ)
    (low high k count : ℕ) : Type 0 where
  pub shaped : AreShapeWords shapes end words
  pub many : length alive ≡ length words
  pub stepped : 0 < k
  pub fits : end < 2 ^ 64
  pub tokens : end ≤ table.tokens
  pub room : count + end < 2 ^ 128
  pub live : IsLive alive (length alive) low high
  pub before : AreAlive table shapes end (k - 1) 0 (length alive) alive

-- all words were stepped, and say what is alive at place k
pub record HasStepped (table : Table) (shapes : List Shape) (end : ℕ) (before after : List ℕ) (k old new : ℕ) : Type 0 where
  pub many : length after ≡ length before
  pub alive : AreAlive table shapes end k 0 (length after) after
  pub asked : WereAsked table shapes 0 end k old new

-- The words from number `from` on can be set at place k: those before say what is alive there, their shapes split the
-- characters so far, and no later token has taken the last one. `opens` says whether a component begins at place k.
pub record CanSet (table : Table) (shapes : List Shape) (end from k : ℕ) (opens : Bool) (alive : List ℕ) : Type 0 where
  pub begins : opens ≡ table.opens k
  pub before : AreAlive table shapes end k 0 from alive
  pub whole : PrefixSplits table shapes (63 * from) k
  pub none : (t : ℕ) → 63 * from ≤ t → t < end → ¬ (HasTaken table shapes t k)

-- A run over a span, begun after `first` questions, has its answer after `count`: whether the shapes before the span's
-- end split all characters.
pub record HasDecided (table : Table) (shapes : List Shape) (span : Span) (first count : ℕ) (yes : Bool) : Type 0 where
  pub answer : IsTrue yes ↔ PrefixSplits table shapes span.end table.characters
  pub most : count ≤ first + span.end * table.characters
  pub least : IsTrue yes → span.accepting ≡ 0 → first + table.characters ≤ count
  pub monotone : first ≤ count
