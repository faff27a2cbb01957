-- Needles: bytes of a pattern that every text it matches contains.
use Rattle.std.specs.Prelude.{◌≡◌, ℕ, ◌+◌, ◌<◌, ◌≤◌, List, ◌++◌, length, map, take, drop, encode_utf8_all, slice_index_or}
use Rattle.std.specs.Char.{to_ascii_lowercase}
use Rattle.std.specs.Int.{bit_at}
use Rattle.glob_text.specs.Text.{Text}
use Rattle.glob_pattern.specs.Grammar.Tokens.{Token}
use Rattle.glob_pattern.specs.declared.pattern.needle.Needle.{Needle}
use Rattle.glob_pattern.specs.declared.token.Token.TheVariants.{Literal}

-- the needle has the bytes of neighbouring literals
pub record IsNeedle (tokens : List Token) (needle : Needle) : Type 0 where
  pub front : List Token
  pub plain : Text
  pub back : List Token
  pub tokens_are : tokens ≡ front ++ (map Literal plain ++ back)
  pub bytes_are : take needle.len needle.bytes ≡ encode_utf8_all plain

-- bit k is set if the kth byte from the offset on is x, compared in lower case
pub record AreLanes (bytes : List ℕ) (from x lanes : ℕ) : Type 0 where
  pub each : (k : ℕ) → k < 16 → from + k < length bytes
      → to_ascii_lowercase (slice_index_or bytes (from + k) 0) ≡ to_ascii_lowercase x
      → bit_at lanes k ≡ 1

-- the needle is at the offset, compared in lower case
pub record IsAt (bytes needle : List ℕ) (offset : ℕ) : Type 0 where
  pub within : offset + length needle ≤ length bytes
  pub folded : map to_ascii_lowercase (take (length needle) (drop offset bytes)) ≡ map to_ascii_lowercase needle

-- the needle is at some offset
pub record ContainsFolded (bytes needle : List ℕ) : Type 0 where
  pub offset : ℕ
  pub stands : IsAt bytes needle offset
