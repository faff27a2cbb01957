-- Splits of a text, given by where each piece ends, and the split with the shortest pieces.
use Rattle.std.specs.Prelude.{◌≡◌, ℕ, ◌+◌, ◌<◌, ◌≤◌, Bool, ◌&&◌, ◌||◌, not, ◌==◌, false, List, [], ◌∷◌, ◌++◌, length}
use Rattle.std.specs.Prelude.{slice_index_or, IsTrue}
use Rattle.glob_text.specs.Text.{Text, opens}
use Rattle.glob_pattern.specs.Grammar.Tokens.{Token}
use Rattle.glob_pattern.specs.Matching.Splits.{Table, MayReach, TakesAll, SplitsFrom}
use Rattle.glob_pattern.specs.Private.TextTable.{table_of}
use Rattle.glob_pattern.specs.declared.options.MatchOptions.{MatchOptions}
use Rattle.glob_pattern.specs.declared.matcher.Shape.{Shape}
use Rattle.glob_captures.specs.declared.piece.Piece.{Piece}
use Rattle.glob_captures.specs.Writing.{byte_place}
use Rattle.glob_captures.specs.Private.Rests.{shapes_from}

-- The piece of token n, of shape `shape`, begins at place i and ends at the first place from which the others take the
-- rest.
pub record IsShortestEnd (table : Table) (n : ℕ) (shape : Shape) (others : List Shape) (i end : ℕ) : Type 0 where
  pub reach : MayReach table shape others i end
  pub took : TakesAll table n i end
  pub rest : SplitsFrom table (n + 1) others end
  pub least : (j : ℕ) → MayReach table shape others i j → TakesAll table n i j → SplitsFrom table (n + 1) others j → end ≤ j

-- so does each piece from token n on
abbrev pub AreShortestEnds : Table → (n : ℕ) → List Shape → (i : ℕ) → (ends : List ℕ) → Type 0
AreShortestEnds table n [] i [] = i ≡ table.characters
AreShortestEnds table n [] i (end ∷ ends) = ⊥
AreShortestEnds table n (shape ∷ others) i [] = ⊥
AreShortestEnds table n (shape ∷ others) i (end ∷ ends) =
    IsShortestEnd table n shape others i end × AreShortestEnds table (n + 1) others end ends

-- where the pieces are, in bytes, that begin at place i and end at these places
abbrev pub places_between : Text → (i : ℕ) → (ends : List ℕ) → List Piece
places_between text i [] = []
places_between text i (end ∷ ends) =
    record { start = byte_place text i; end = byte_place text end } ∷ places_between text end ends

-- these are the places of the shortest pieces, in bytes
unfoldable pub HasShortestEnds : MatchOptions → List Token → Text → List Piece → Type 0
HasShortestEnds o tokens text found =
    (ends : List ℕ) × AreShortestEnds (table_of o tokens text) 0 (shapes_from tokens 0) 0 ends
    × (found ≡ places_between text 0 ends)

-- The pieces of the first n tokens are found: followed by the shortest pieces from place i on, they are the shortest
-- pieces of the whole text.
unfoldable pub LacksOnly : MatchOptions → List Token → Text → (n i : ℕ) → List Piece → Type 0
LacksOnly o tokens text n i found =
    (ends : List ℕ) → AreShortestEnds (table_of o tokens text) n (shapes_from tokens n) i ends
    → HasShortestEnds o tokens text (found ++ places_between text i ends)

-- Whether a piece that begins at place i may end at place j, where `next` is the row of the tokens after it, and
-- `closes` says that it must be empty or end in `/`.
abbrev pub may_end : (closes : Bool) → Text → (next : List Bool) → (i j : ℕ) → Bool
may_end closes text next i j = slice_index_or next j false && (j == i || (not closes || opens text j))

-- a piece that begins at place i ends at the first place where it may, or at the end of the text
pub record IsFirstEnd (closes : Bool) (text : Text) (next : List Bool) (i end : ℕ) : Type 0 where
  pub low : i ≤ end
  pub high : end ≤ length text
  pub before : (j : ℕ) → i ≤ j → j < end → ¬ (IsTrue (may_end closes text next i j))
  pub here : end < length text → IsTrue (may_end closes text next i end)
