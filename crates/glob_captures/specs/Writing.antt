-- Where the tokens are in a pattern's text.
use Rattle.std.specs.Prelude.{◌≡◌, ◌≤◌, ℕ, List, [], ◌∷◌, length, take, encode_utf8_all}
use Rattle.glob_text.specs.Text.{Text}
use Rattle.glob_pattern.specs.Grammar.Tokens.{Token, tokens_of_units}
use Rattle.glob_pattern.specs.Grammar.Units.{UnitsBetween}
use Rattle.glob_captures.specs.declared.written.Written.{Written}

-- the first token begins at `start`, each other one where the one before it ends, and the last ends at `end`
abbrev pub AreAdjacent : (start : ℕ) → List Written → (end : ℕ) → Type 0
AreAdjacent start [] end = end ≡ start
AreAdjacent start (token ∷ tokens) end =
    (token.piece.start ≡ start) × (start ≤ token.piece.end) × AreAdjacent token.piece.end tokens end

-- place k, which counts characters, as a place in bytes
abbrev pub byte_place : Text → (k : ℕ) → ℕ
byte_place text k = length (encode_utf8_all (take k text))

-- this token is written from place f to place e, in characters: one unit, or neighbouring `**`
abbrev pub TokenBetween : Text → ℕ → Token → ℕ → Type 0
TokenBetween text f token e =
    (units : List Token) × UnitsBetween text f units e × (tokens_of_units units ≡ token ∷ [])

-- The text from place f up to place e, in characters, is these tokens in order, and each piece says in bytes where its
-- token is.
abbrev pub AreWritten : Text → ℕ → List Token → List Written → ℕ → Type 0
AreWritten text f [] [] e = f ≡ e
AreWritten text f [] (written ∷ more) e = ⊥
AreWritten text f (token ∷ tokens) [] e = ⊥
AreWritten text f (token ∷ tokens) (written ∷ more) e =
    (m : ℕ) × TokenBetween text f token m
    × (written.piece ≡ record { start = byte_place text f; end = byte_place text m })
    × AreWritten text m tokens more e
