-- The ends of a text, and its pieces between separators.
use Rattle.std.specs.Prelude.{ℕ, ◌-◌, Bool, true, false, ◌==◌, List, [], ◌∷◌, length, slice_index}
use Rattle.std.specs.List.{slice_split}
use Rattle.glob_text.specs.Characters.{slash}
use Rattle.glob_text.specs.Text.{Text}

abbrev pub is_empty : Text → Bool
is_empty [] = true
is_empty (c ∷ cs) = false

-- the first byte is c
abbrev pub begins_with : ℕ → Text → Bool
begins_with c text = slice_index text 0 == c

-- the last byte is c
abbrev pub ends_with : ℕ → Text → Bool
ends_with c text = slice_index text (length text - 1) == c

-- the pieces between separators, one more than there are separators
abbrev pub pieces : Text → List Text
pieces path = slice_split (λ c. c == slash) path
