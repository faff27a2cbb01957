-- Stepping over a text, one character at a time.
use Rattle.std.specs.Prelude.{◌≡◌, ℕ, ◌-◌, ◌<◌, Bool, length, drop, slice_index}
use Rattle.glob_text.specs.Text.{Text}
use Rattle.glob_pattern.specs.Private.TextTable.{opens_within}

-- the place where the rest of a text begins
abbrev pub place_before : (text rest : Text) → ℕ
place_before text rest = length text - length rest

-- What is known at the rest of a text: the character before it, whether a component begins at that character
-- (`opened`), and whether one begins at the rest (`opening`). `start`: one begins at the start of the text.
pub record IsSteppedTo (start : Bool) (text rest : Text) (current : ℕ) (opened opening : Bool) : Type 0 where
  pub left : rest ≡ drop (place_before text rest) text
  pub here : opening ≡ opens_within start text (place_before text rest)
  pub last : 0 < place_before text rest → current ≡ slice_index text (place_before text rest - 1)
  pub before : 0 < place_before text rest → opened ≡ opens_within start text (place_before text rest - 1)
