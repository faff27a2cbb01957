-- Escaped texts: patterns with braces that match the text they are made from.
use Rattle.std.specs.Prelude.{◌≡◌, ℕ, Bool, ◌||◌, ◌==◌, if◌then◌else◌, [], ◌∷◌, chars, IsTrue, ◌↔◌}
use Rattle.std.specs.List.{flat_map}
use Rattle.glob_text.specs.Text.{Text}
use Rattle.glob_pattern.specs.Escaping as pattern
use Rattle.glob_pattern.specs.Grammar.Characters.{open_bracket, close_bracket}
use Rattle.glob_pattern.specs.Matching.Texts.{Matches}
use Rattle.glob_pattern.specs.declared.options.MatchOptions.{MatchOptions}
use Rattle.glob_set.specs.Braces.{AreAlternatives, open_brace, close_brace}

-- c is one of `?`, `*`, `[`, `]`, `{` and `}`
abbrev pub is_special : ℕ → Bool
is_special c = pattern.is_special c || (c == open_brace || c == close_brace)

-- a special character in a bracket of its own, any other as it is
abbrev pub escaped_character : ℕ → Text
escaped_character c = if is_special c then open_bracket ∷ c ∷ close_bracket ∷ [] else c ∷ []

-- each character, escaped
abbrev pub escaped_text : Text → Text
escaped_text text = flat_map escaped_character text

-- the only alternative of the escaped text is itself, and case-sensitively it matches only the original
unfoldable pub StandsFor : (escaped text : Text) → Type 0
StandsFor escaped text =
    AreAlternatives (chars escaped) (escaped ∷ [])
    × ((o : MatchOptions) (other : Text) → IsTrue o.case_sensitive
    → (Matches o (chars escaped) other ↔ (chars text ≡ other)))
