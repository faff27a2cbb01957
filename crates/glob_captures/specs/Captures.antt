-- How the tokens of a pattern split a text into pieces, and which split has the shortest pieces.
use Rattle.std.specs.Prelude.{◌≡◌, ℕ, ◌+◌, ◌<◌, ◌⊎◌, List, [], ◌∷◌, length, map, encode_utf8_all}
use Rattle.std.specs.List.{concat}
use Rattle.glob_text.specs.Text.{Text}
use Rattle.glob_pattern.specs.Grammar.Tokens.{Token}
use Rattle.glob_pattern.specs.Matching.Texts.{AreAllowed}
use Rattle.glob_pattern.specs.declared.options.MatchOptions.{MatchOptions}
use Rattle.glob_captures.specs.declared.piece.Piece.{Piece}

-- A split of the text: its pieces, one per token, concatenate to the text, and each token allows its piece.
pub record IsSplit (o : MatchOptions) (tokens : List Token) (text : Text) (pieces : List Text) : Type 0 where
  pub whole : concat pieces ≡ text
  pub allowed : AreAllowed o text 0 tokens pieces

-- the first list is at most the second, in lexicographic order
abbrev pub IsNoMore : List ℕ → List ℕ → Type 0
IsNoMore [] ns = Unit {0}
IsNoMore (m ∷ ms) [] = ⊥
IsNoMore (m ∷ ms) (n ∷ ns) = (m < n) ⊎ ((m ≡ n) × IsNoMore ms ns)

-- The split with the shortest pieces from the left: no split has a shorter first piece, none with the same first piece
-- has a shorter second one, and so on.
pub record IsShortestSplit (o : MatchOptions) (tokens : List Token) (text : Text) (pieces : List Text) : Type 0 where
  pub split : IsSplit o tokens text pieces
  pub shortest : (others : List Text) → IsSplit o tokens text others
      → IsNoMore (map length pieces) (map length others)

-- where consecutive pieces are, in bytes, if the first begins at `start`
abbrev pub places_of : (start : ℕ) → (pieces : List Text) → List Piece
places_of start [] = []
places_of start (piece ∷ pieces) =
    let end = start + length (encode_utf8_all piece) in
    record { start = start; end = end } ∷ places_of end pieces

-- these are the places of the shortest split of the text
unfoldable pub AreCaptures : MatchOptions → List Token → Text → List Piece → Type 0
AreCaptures o tokens text found =
    (pieces : List Text) × IsShortestSplit o tokens text pieces × (found ≡ places_of 0 pieces)
