-- Texts and places in them. A text is a list of characters, and a place is the number of characters before it.
use Rattle.std.specs.Prelude.{◌≡◌, ℕ, ◌-◌, ◌<◌, Bool, ◌&&◌, ◌||◌, nat_lt, ◌==◌, List, length, take, drop, slice_index}
use Rattle.glob_text.specs.Characters.{slash}

abbrev pub Text : Type 0
Text = List ℕ

-- the character at place k is c
abbrev pub Has : Text → ℕ → ℕ → Type 0
Has text k c = (k < length text) × (slice_index text k ≡ c)

-- the same, as a test
abbrev pub has : Text → ℕ → ℕ → Bool
has text k c = nat_lt k (length text) && slice_index text k == c

-- place k opens a component: it is the start, or comes right after `/`
abbrev pub opens : Text → ℕ → Bool
opens text k = k == 0 || slice_index text (k - 1) == slash

-- the characters from place i up to place j
abbrev pub between : Text → ℕ → ℕ → Text
between text i j = take (j - i) (drop i text)
