-- The ends of a pattern: one-character tokens, and the literals among them, which are compared as bytes.
use Rattle.std.specs.Prelude.{◌≡◌, ℕ, ◌+◌, ◌-◌, ◌<◌, ◌≤◌, Bool, true, false, List, length, map, take, drop, encode_utf8_all, slice_index_or}
use Rattle.std.specs.Char.{to_ascii_lowercase}
use Rattle.glob_text.specs.Text.{Text}
use Rattle.glob_pattern.specs.Grammar.Tokens.{Token, shape_of}
use Rattle.glob_pattern.specs.declared.matcher.Shape.{Shape}
use Rattle.glob_pattern.specs.declared.matcher.Shape.TheVariants.{One}
use Rattle.glob_pattern.specs.declared.pattern.ends.Ends.{Ends}
use Rattle.glob_pattern.specs.declared.token.Token.TheVariants.{Literal}

-- the first `lead` and the last `trail` shapes are of one character, and do not overlap
pub record HasOnes (shapes : List Shape) (lead trail : ℕ) : Type 0 where
  pub within : lead + trail ≤ length shapes
  pub first : (j : ℕ) → j < lead → slice_index_or shapes j One ≡ One
  pub last : (i : ℕ) → i < trail → slice_index_or shapes (length shapes - 1 - i) One ≡ One

-- the tokens are literals, with this many bytes of UTF-8
pub record HasLiterals (tokens : List Token) (count : ℕ) : Type 0 where
  pub plain : Text
  pub tokens_are : tokens ≡ map Literal plain
  pub count_is : count ≡ length (encode_utf8_all plain)

-- the one-character tokens at both ends, and the literals among them
pub record IsEnds (tokens : List Token) (ends : Ends) : Type 0 where
  pub ones : HasOnes (map shape_of tokens) ends.lead ends.trail
  pub few_first : ends.prefix.count ≤ ends.lead
  pub few_last : ends.suffix.count ≤ ends.trail
  pub first : HasLiterals (take ends.prefix.count tokens) ends.prefix.bytes
  pub last : HasLiterals (drop (length tokens - ends.suffix.count) tokens) ends.suffix.bytes

-- the bytes are equal, or, case-insensitively, equal in lower case
abbrev pub SameBytes : (case : Bool) → List ℕ → List ℕ → Type 0
SameBytes true bytes other = bytes ≡ other
SameBytes false bytes other = map to_ascii_lowercase bytes ≡ map to_ascii_lowercase other

-- the bytes begin with the prefix and end with the suffix, which do not overlap
pub record HasEnds (case : Bool) (prefix suffix bytes : List ℕ) : Type 0 where
  pub within : length prefix + length suffix ≤ length bytes
  pub first : SameBytes case (take (length prefix) bytes) prefix
  pub last : SameBytes case (drop (length bytes - length suffix) bytes) suffix
