-- The numbers that calls return.
use Rattle.std.specs.Prelude.{◌≡◌, ℕ, ◌<◌, ◌≤◌, List, [], ◌∷◌, length, map, AllPairs, IsUtf8, chars}
use Rattle.glob_pattern.specs.Computing.Tokens.{tokens_of, kind_of}
use Rattle.glob_pattern.specs.Grammar.Units.{IsAccepted}
use Rattle.glob_pattern.specs.Matching.Options.{options_of_bits}
use Rattle.glob_pattern.specs.Matching.Texts.{Matches}
use Rattle.glob_captures.specs.Captures.{AreCaptures}
use Rattle.glob_captures.specs.Reaching.{IsReached}
use Rattle.glob_captures.specs.Writing.{AreWritten}
use Rattle.glob_captures.specs.declared.piece.Piece.{Piece}
use Rattle.glob_captures.specs.declared.written.Written.{Written}
use Rattle.glob_pattern.specs.declared.options.MatchOptions.{MatchOptions}
use Rattle.glob_pattern.specs.declared.pattern.tokens.TokenKind.{TokenKind}
use Rattle.glob_pattern.specs.declared.pattern.tokens.TokenKind.TheVariants as kind

-- the text does not match
abbrev pub no : ℕ
no = 0

-- the text matches, or the call succeeded
abbrev pub yes : ℕ
yes = 1

-- the pattern is refused
abbrev pub fault : ℕ
fault = 2

-- some bytes are not UTF-8
abbrev pub not_utf8 : ℕ
not_utf8 = 4

-- a text is too large, or a buffer too short
abbrev pub too_large : ℕ
too_large = 5

-- a path cannot be added to a tree
abbrev pub no_path : ℕ
no_path = 6

-- Yes and no are decided by the definition of a match, for a valid pattern. A fault is reported only for an invalid
-- pattern, and `not_utf8` exactly when some bytes are not UTF-8.
pub record Decides (pattern text : List ℕ) (flags answer : ℕ) : Type 0 where
  pub range : answer ≤ too_large
  pub accepted : answer ≤ yes → IsAccepted (chars pattern)
  pub utf8 : ¬ (answer ≡ not_utf8) → IsUtf8 pattern × IsUtf8 text
  pub yes : answer ≡ yes → Matches (options_of_bits flags) (chars pattern) (chars text)
  pub no : answer ≡ no → ¬ (Matches (options_of_bits flags) (chars pattern) (chars text))
  pub fault : answer ≡ fault → ¬ (IsAccepted (chars pattern))
  pub not_utf8 : answer ≡ not_utf8 → ¬ (IsUtf8 pattern × IsUtf8 text)

-- where each piece starts and ends
abbrev pub numbers_of : List Piece → List ℕ
numbers_of [] = []
numbers_of (piece ∷ pieces) = piece.start ∷ piece.end ∷ numbers_of pieces

-- the number of a kind of token
abbrev pub kind_number : TokenKind → ℕ
kind_number kind.Literal = 0
kind_number kind.AnyChar = 1
kind_number kind.AnySequence = 2
kind_number kind.Recursive = 3
kind_number kind.OneOf = 4
kind_number kind.NoneOf = 5

-- for each token its kind, and where it starts and ends
abbrev pub written_numbers : List Written → List ℕ
written_numbers [] = []
written_numbers (token ∷ tokens) =
    kind_number token.kind ∷ token.piece.start ∷ token.piece.end ∷ written_numbers tokens

-- The numbers are the kinds of the pattern's tokens, in order, and where each is: one after another, from the start of
-- the pattern to its end.
unfoldable pub AreTokens : (pattern numbers : List ℕ) → Type 0
AreTokens pattern numbers =
    (list : List Written) × (map (λ token. token.kind) list ≡ map kind_of (tokens_of (chars pattern)))
    × AreWritten (chars pattern) 0 (tokens_of (chars pattern)) list (length (chars pattern))
    × (numbers ≡ written_numbers list)

-- the numbers are where the shortest pieces of the text start and end, one piece per token of the pattern
unfoldable pub ArePieces : MatchOptions → (pattern text numbers : List ℕ) → Type 0
ArePieces o pattern text numbers =
    (pieces : List Piece) × AreCaptures o (tokens_of (chars pattern)) (chars text) pieces × (numbers ≡ numbers_of pieces)

-- The first number is how far the pattern gets in the text, and the others are the tokens that wait there, each once
-- and in ascending order.
unfoldable pub IsStop : MatchOptions → (pattern text numbers : List ℕ) → Type 0
IsStop o pattern text numbers =
    (place : ℕ) × (waiting : List ℕ) × IsReached o (tokens_of (chars pattern)) (chars text) place waiting
    × AllPairs (λ number later. number < later) waiting × (numbers ≡ place ∷ waiting)
