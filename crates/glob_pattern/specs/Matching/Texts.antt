-- Which texts a pattern matches: those that split into one allowed piece per token.
use Rattle.std.specs.Prelude.{◌≡◌, ℕ, ◌+◌, ◌<◌, ◌⊎◌, List, [], ◌∷◌, ◌++◌, length, slice_index, IsTrue}
use Rattle.std.specs.List.{concat}
use Rattle.glob_text.specs.Characters.{slash}
use Rattle.glob_text.specs.Text.{Text, opens}
use Rattle.glob_pattern.specs.Grammar.Tokens.{Token}
use Rattle.glob_pattern.specs.Matching.Taking.{takes}
use Rattle.glob_pattern.specs.Grammar.Units.{HasTokens}
use Rattle.glob_pattern.specs.declared.options.MatchOptions.{MatchOptions}
use Rattle.glob_pattern.specs.declared.token.Token.TheVariants.{Literal, AnyChar, AnySequence, Recursive, OneOf, NoneOf}

-- the token takes each character of the piece, which begins at place k of the text
abbrev pub TakesPiece : MatchOptions → Text → Token → ℕ → Text → Type 0
TakesPiece o text t k piece =
    (i : ℕ) → i < length piece → IsTrue (takes o (opens text (k + i)) (slice_index piece i) t)

-- the piece ends in `/`
abbrev pub EndsInSlash : Text → Type 0
EndsInSlash piece = (front : Text) × (piece ≡ front ++ slash ∷ [])

-- The form of a token's piece before the tokens `others`: one character; any number for `*`; any number for `**` too,
-- but if tokens follow, the piece is empty or ends in `/`.
abbrev pub HasForm : Token → (others : List Token) → Text → Type 0
HasForm (Literal c) others piece = length piece ≡ 1
HasForm AnyChar others piece = length piece ≡ 1
HasForm AnySequence others piece = Unit {0}
HasForm Recursive others piece = (others ≡ []) ⊎ (piece ≡ []) ⊎ EndsInSlash piece
HasForm (OneOf entries) others piece = length piece ≡ 1
HasForm (NoneOf entries) others piece = length piece ≡ 1

-- there is one piece per token, from place k of the text on, and each is allowed
abbrev pub AreAllowed : MatchOptions → Text → ℕ → List Token → List Text → Type 0
AreAllowed o text k [] [] = Unit {0}
AreAllowed o text k [] (piece ∷ pieces) = ⊥
AreAllowed o text k (t ∷ ts) [] = ⊥
AreAllowed o text k (t ∷ ts) (piece ∷ pieces) =
    TakesPiece o text t k piece × HasForm t ts piece
    × AreAllowed o text (k + length piece) ts pieces

-- the text is a concatenation of allowed pieces, one per token
unfoldable pub TokensMatch : MatchOptions → List Token → Text → Type 0
TokensMatch o tokens text =
    (pieces : List Text) × (concat pieces ≡ text) × AreAllowed o text 0 tokens pieces

-- the pattern is accepted, and its tokens match the text
unfoldable pub Matches : MatchOptions → (pattern : Text) → Text → Type 0
Matches o pattern text =
    (tokens : List Token) × HasTokens pattern tokens × TokensMatch o tokens text
