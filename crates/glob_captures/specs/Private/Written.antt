-- The rest of a pattern's text after some of its tokens. Places are in characters.
use Rattle.std.specs.Prelude.{◌≡◌, ℕ, ◌+◌, ◌⊎◌, false, List, ◌∷◌, length}
use Rattle.glob_text.specs.Characters.{slash}
use Rattle.glob_text.specs.Text.{Text, Has}
use Rattle.glob_pattern.specs.Grammar.Tokens.{Token, begins_recursive, tokens_of_units}
use Rattle.glob_pattern.specs.Grammar.Units.{UnitsBetween}
use Rattle.glob_pattern.specs.Computing.Tokens.{kind_of}
use Rattle.glob_pattern.specs.declared.pattern.tokens.TokenKind.{TokenKind}
use Rattle.glob_pattern.specs.declared.token.Token.TheVariants.{Recursive}
use Rattle.glob_captures.specs.Writing.{TokenBetween}

-- the text from place f on has these tokens
abbrev pub TokensFrom : Text → ℕ → List Token → Type 0
TokensFrom text f tokens =
    (units : List Token) × UnitsBetween text f units (length text) × (tokens_of_units units ≡ tokens)

-- the same, and its first unit is not `**`
abbrev pub OthersFrom : Text → ℕ → List Token → Type 0
OthersFrom text f tokens =
    (units : List Token) × UnitsBetween text f units (length text) × (tokens_of_units units ≡ tokens)
    × (begins_recursive units ≡ false)

-- Whichever token of this kind is at place f, it ends at place e.
unfoldable pub IsTokenEnd : Text → ℕ → TokenKind → ℕ → Type 0
IsTokenEnd text f kind e =
    (token : Token) (tokens : List Token) → kind ≡ kind_of token → TokensFrom text f (token ∷ tokens)
    → TokenBetween text f token e × TokensFrom text e tokens

-- Some of the neighbouring `**` at place f are read, up to place e.
unfoldable pub IsRead : Text → ℕ → ℕ → Type 0
IsRead text f e =
    (tokens : List Token) → TokensFrom text f (Recursive ∷ tokens)
    → ((e ≡ f) × TokensFrom text e (Recursive ∷ tokens))
    ⊎ (TokenBetween text f Recursive e × (TokensFrom text e (Recursive ∷ tokens) ⊎ OthersFrom text e tokens))

-- a `**` at place f ends after its two stars, or after the `/` that follows them
abbrev pub IsAfterStars : Text → ℕ → ℕ → Type 0
IsAfterStars text f e = ((e ≡ f + 2) × (¬ (Has text (f + 2) slash))) ⊎ ((e ≡ f + 3) × Has text (f + 2) slash)
