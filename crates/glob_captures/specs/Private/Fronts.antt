-- Rows of answers, one a place: whether the first tokens take the text up to there, or whether a token waits there.
use Rattle.std.specs.Prelude.{◌≡◌, ℕ, ◌+◌, ◌≤◌, ◌↔◌, Bool, false, List, length, map, slice_index_or, IsTrue}
use Rattle.glob_text.specs.Text.{Text}
use Rattle.glob_pattern.specs.Grammar.Tokens.{Token, shape_of}
use Rattle.glob_pattern.specs.Private.Prefixes.{HasTaken}
use Rattle.glob_pattern.specs.Private.TextTable.{table_of}
use Rattle.glob_pattern.specs.declared.options.MatchOptions.{MatchOptions}
use Rattle.glob_captures.specs.Reaching.{TakeFront, Waits}

-- token n has taken the character before place k
unfoldable pub Took : MatchOptions → List Token → Text → (n k : ℕ) → Type 0
Took o tokens text n k = HasTaken (table_of o tokens text) (map shape_of tokens) n k

-- for each place, whether the first n tokens take the text up to there
pub record AreFronts (o : MatchOptions) (tokens : List Token) (text : Text) (n : ℕ) (places : List Bool) : Type 0 where
  pub many : length places ≡ length text + 1
  pub front : (k : ℕ) → k ≤ length text → IsTrue (slice_index_or places k false) ↔ TakeFront o tokens text n k

-- for each place, whether token n waits there
pub record AreWaits (o : MatchOptions) (tokens : List Token) (text : Text) (n : ℕ) (places : List Bool) : Type 0 where
  pub many : length places ≡ length text + 1
  pub wait : (k : ℕ) → k ≤ length text → IsTrue (slice_index_or places k false) ↔ Waits o tokens text n k
