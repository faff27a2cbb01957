-- The literals of a pattern, by token number.
use Rattle.std.specs.Prelude.{◌≡◌, ℕ, List, length, slice_index_or}
use Rattle.glob_text.specs.Text.{Text}
use Rattle.glob_pattern.specs.Grammar.Tokens.{Token}
use Rattle.glob_pattern.specs.Grammar.Units.{HasTokens}
use Rattle.glob_pattern.specs.declared.token.Token.TheVariants.{Literal, AnyChar}

-- the pattern, if it is accepted, has this many tokens
unfoldable pub HasCount : (pattern : Text) → (count : ℕ) → Type 0
HasCount pattern count = (tokens : List Token) → HasTokens pattern tokens → length tokens ≡ count

-- the token of this number, if the pattern is accepted, is the literal c
unfoldable pub HasLiteral : (pattern : Text) → (number : ℕ) → (c : ℕ) → Type 0
HasLiteral pattern number c =
    (tokens : List Token) → HasTokens pattern tokens → slice_index_or tokens number AnyChar ≡ Literal c
