-- How far the first tokens of a pattern take a text, and which tokens wait there.
use Rattle.std.specs.Prelude.{◌≡◌, ℕ, ◌<◌, ◌≤◌, ◌↔◌, List, length, map, take, Contains, encode_utf8_all}
use Rattle.glob_text.specs.Text.{Text}
use Rattle.glob_pattern.specs.Grammar.Tokens.{Token, shape_of}
use Rattle.glob_pattern.specs.Private.Prefixes.{PrefixSplits, IsAlive}
use Rattle.glob_pattern.specs.Private.TextTable.{table_of}
use Rattle.glob_pattern.specs.declared.options.MatchOptions.{MatchOptions}

-- the first n tokens take the text up to place k, in characters: it splits into pieces that they allow
unfoldable pub TakeFront : MatchOptions → List Token → Text → (n k : ℕ) → Type 0
TakeFront o tokens text n k = PrefixSplits (table_of o tokens text) (map shape_of tokens) n k

-- Token n waits at place k if the tokens before it take the text up to k. So does a token with pieces of any length, if
-- the tokens before it take the text up to an earlier place, and it takes every character from there up to k.
unfoldable pub Waits : MatchOptions → List Token → Text → (n k : ℕ) → Type 0
Waits o tokens text n k = IsAlive (table_of o tokens text) (map shape_of tokens) n k

-- the farthest place that some number of first tokens reaches
pub record IsFarthest (o : MatchOptions) (tokens : List Token) (text : Text) (place : ℕ) : Type 0 where
  pub within : place ≤ length text
  pub taken : (n : ℕ) × (n ≤ length tokens) × TakeFront o tokens text n place
  pub last : (n k : ℕ) → n ≤ length tokens → k ≤ length text → TakeFront o tokens text n k → k ≤ place

-- the tokens with these numbers, and no others, wait at the place
abbrev pub AreWaiting : MatchOptions → List Token → Text → (place : ℕ) → (waiting : List ℕ) → Type 0
AreWaiting o tokens text place waiting =
    (n : ℕ) → Contains waiting n ↔ ((n < length tokens) × Waits o tokens text n place)

-- The first tokens can take the text up to this place, in bytes, and the tokens with these numbers wait there.
unfoldable pub IsReached : MatchOptions → List Token → Text → (place : ℕ) → (waiting : List ℕ) → Type 0
IsReached o tokens text place waiting =
    (k : ℕ) × IsFarthest o tokens text k × (place ≡ length (encode_utf8_all (take k text)))
    × AreWaiting o tokens text k waiting
