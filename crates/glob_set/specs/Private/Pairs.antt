-- Pairs of neighbouring bytes as bits of one word: a text that lacks a bit of a pattern does not match it.
use Rattle.std.specs.Prelude.{◌≡◌, ℕ, ◌+◌, ◌*◌, ◌%◌, ◌^◌, ◌<◌, List, [], ◌∷◌, length, slice_index_or, bit_or, IfSome, chars}
use Rattle.std.specs.Str.{IsUtf8}
use Rattle.glob_text.specs.Text.{Text}
use Rattle.glob_pattern.specs.Matching.Texts.{Matches}
use Rattle.glob_pattern.specs.Matching.Literals.{HasCount}
use Rattle.glob_pattern.specs.declared.options.MatchOptions.{MatchOptions}
use Rattle.glob_set.specs.declared.pairs.Need.{Need}

-- the class of two neighbouring bytes, the same in upper and lower case
abbrev pub pair_class : ℕ → ℕ → ℕ
pair_class a b = (a % 32 * 13 + b % 32 * 3) % 128

-- the bit that a class has in a word
abbrev pub class_bit : (class : ℕ) → ℕ
class_bit class = 1 * 2 ^ class % 2 ^ 128

-- the bits of all pairs of neighbours, with the byte `before` in front
abbrev pub pair_bits : (before : ℕ) → List ℕ → ℕ
pair_bits before [] = 0
pair_bits before (b ∷ bs) = bit_or (class_bit (pair_class before b)) (pair_bits b bs)

-- the class of the last two bytes, or `class` if there are no bytes
abbrev pub last_class : (class before : ℕ) → List ℕ → ℕ
last_class class before [] = class
last_class class before (b ∷ bs) = last_class (pair_class before b) b bs

-- the bits of a text, with a byte 0 in front
abbrev pub text_bits : List ℕ → ℕ
text_bits bytes = pair_bits 0 bytes

-- the class of a text: that of its last two bytes
abbrev pub text_class : List ℕ → ℕ
text_class bytes = last_class 0 0 bytes

-- every text that the pattern matches has these bits
unfoldable pub HasBits : (pattern : Text) → (bits : ℕ) → Type 0
HasBits pattern bits =
    (o : MatchOptions) (bytes : List ℕ) → IsUtf8 bytes → Matches o (chars pattern) (chars bytes)
    → bit_or bits (text_bits bytes) ≡ text_bits bytes

-- every text that the pattern matches has this class
unfoldable pub HasClass : (pattern : Text) → (class : ℕ) → Type 0
HasClass pattern class =
    (o : MatchOptions) (bytes : List ℕ) → IsUtf8 bytes → Matches o (chars pattern) (chars bytes)
    → text_class bytes ≡ class

-- token `number` and the byte before it give this bit to every match and, if the token is the last one, this class
pub record IsPairAt (pattern : Text) (number class : ℕ) : Type 0 where
  pub small : class < 128
  pub bits : HasBits pattern (class_bit class)
  pub last : HasCount (chars pattern) (number + 1) → HasClass pattern class

-- what every text matched by the pattern has
pub record IsNeed (pattern : Text) (need : Need) : Type 0 where
  pub bits : HasBits pattern need.bits
  pub class : IfSome need.class (HasClass pattern)

-- the class, if there is one, is below 128
abbrev pub HasSmallClass : Need → Type 0
HasSmallClass need = IfSome need.class (λ k. k < 128)

-- the need of each pattern, in order
pub record AreNeeds (patterns : List Text) (needs : List Need) : Type 0 where
  pub same_length : length needs ≡ length patterns
  pub each : (k : ℕ) (d : Need) → k < length patterns → IsNeed (slice_index_or patterns k []) (slice_index_or needs k d)
