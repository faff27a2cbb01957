-- From which places the last tokens of a pattern take the rest of a text.
use Rattle.std.specs.Prelude.{◌≡◌, ◌≢◌, ℕ, ◌+◌, ◌-◌, ◌<◌, ◌≤◌, ◌↔◌, Bool, true, false, List, [], ◌∷◌, length, map, drop}
use Rattle.std.specs.Prelude.{slice_index_or, IsTrue}
use Rattle.glob_text.specs.Text.{Text}
use Rattle.glob_pattern.specs.Grammar.Tokens.{Token, shape_of}
use Rattle.glob_pattern.specs.Matching.Splits.{MayReach, TakesAll, SplitsFrom}
use Rattle.glob_pattern.specs.Private.TextTable.{table_of}
use Rattle.glob_pattern.specs.declared.options.MatchOptions.{MatchOptions}
use Rattle.glob_pattern.specs.declared.matcher.Shape.{Shape}
use Rattle.glob_pattern.specs.declared.matcher.Shape.TheVariants.{One, Run, Deep}
use Rattle.glob_captures.specs.declared.span.WildcardSpan.{WildcardSpan}
use Rattle.glob_captures.specs.declared.steps.Form.{Form}

-- pieces of this shape may have any number of characters
abbrev pub grows : Shape → Bool
grows One = false
grows Run = true
grows Deep = true

-- a nonempty piece of this shape ends in `/`; `others` are the shapes after it
abbrev pub closes : Shape → (others : List Shape) → Bool
closes One others = false
closes Run others = false
closes Deep [] = false
closes Deep (shape ∷ shapes) = true

-- the shape of token n
abbrev pub shape_at : List Token → (n : ℕ) → Shape
shape_at tokens n = slice_index_or (map shape_of tokens) n One

-- the shapes of the tokens from n on
abbrev pub shapes_from : List Token → (n : ℕ) → List Shape
shapes_from tokens n = drop n (map shape_of tokens)

-- the form of the pieces of token n
pub record IsFormAt (tokens : List Token) (n : ℕ) (form : Form) : Type 0 where
  pub many : form.grows ≡ grows (shape_at tokens n)
  pub ends : form.closes ≡ closes (shape_at tokens n) (shapes_from tokens (n + 1))

-- the tokens from n on take the text from place k on
unfoldable pub TakesRest : MatchOptions → List Token → Text → (n k : ℕ) → Type 0
TakesRest o tokens text n k = SplitsFrom (table_of o tokens text) n (shapes_from tokens n) k

-- The tokens from n on take the text from place k on, and token n takes the character there.
unfoldable pub TakesMore : MatchOptions → List Token → Text → (n k : ℕ) → Type 0
TakesMore o tokens text n k =
    (j : ℕ) × (k < j) × MayReach (table_of o tokens text) (shape_at tokens n) (shapes_from tokens (n + 1)) k j
    × TakesAll (table_of o tokens text) n k j × TakesRest o tokens text (n + 1) j

-- for each place from `from` on, whether the tokens from n on take the text from there on
pub record AreRests (o : MatchOptions) (tokens : List Token) (text : Text) (n from : ℕ) (places : List Bool) : Type 0 where
  pub many : length places ≡ length text + 1
  pub rest : (k : ℕ) → from ≤ k → k ≤ length text
      → IsTrue (slice_index_or places k false) ↔ TakesRest o tokens text n k

-- the span from `first` to `last` has all tokens whose pieces may have any number of characters
pub record IsSpan (tokens : List Token) (span : WildcardSpan) : Type 0 where
  pub order : span.first ≤ span.last
  pub within : span.last ≤ length tokens
  pub inside : span.first ≢ length tokens → span.last < length tokens
  pub before : (n : ℕ) → n < span.first → n < length tokens → grows (shape_at tokens n) ≡ false
  pub after : (n : ℕ) → span.last < n → n < length tokens → grows (shape_at tokens n) ≡ false

-- row i is for the tokens from `last - i` on; it is used only if the token before them may take any number of
-- characters
pub record AreInnerRests (o : MatchOptions) (tokens : List Token) (text : Text) (span : WildcardSpan)
    (rows : List (List Bool)) : Type 0 where
  pub many : length rows ≡ span.last - span.first
  pub row : (i : ℕ) → i < span.last - span.first → IsTrue (grows (shape_at tokens (span.last - i - 1)))
      → AreRests o tokens text (span.last - i) 0 (slice_index_or rows i [])
