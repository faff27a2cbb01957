-- Escaped texts: patterns that match the text they are made from.
use Rattle.std.specs.Prelude.{ℕ, Bool, ◌||◌, ◌==◌, if◌then◌else◌, [], ◌∷◌}
use Rattle.std.specs.List.{flat_map}
use Rattle.glob_pattern.specs.Grammar.Characters.{star, question_mark, open_bracket, close_bracket}
use Rattle.glob_text.specs.Text.{Text}

-- c is one of `?`, `*`, `[` and `]`
abbrev pub is_special : ℕ → Bool
is_special c = c == question_mark || c == star || c == open_bracket || c == close_bracket

-- a special character in a bracket of its own, any other as it is
abbrev pub escaped_character : ℕ → Text
escaped_character c = if is_special c then open_bracket ∷ c ∷ close_bracket ∷ [] else c ∷ []

-- each character, escaped
abbrev pub escaped_text : Text → Text
escaped_text text = flat_map escaped_character text
