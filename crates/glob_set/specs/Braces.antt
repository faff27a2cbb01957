-- The alternatives of a text with braces, and the faults of its braces.
use Rattle.std.specs.Prelude.{◌≡◌, ℕ, ◌+◌, ◌<◌, Bool, true, false, nat_lt, ◌==◌, if◌then◌else◌, List, [], ◌∷◌, ◌++◌}
use Rattle.std.specs.Prelude.{length, map, slice_index_or, Option, Some, None, encode_utf8, ⊤}
use Rattle.std.specs.List.{flat_map}
use Rattle.glob_text.specs.Text.{Text, has}
use Rattle.glob_pattern.specs.Grammar.Characters.{open_bracket}
use Rattle.glob_pattern.specs.Grammar.Tokens.{Token}
use Rattle.glob_pattern.specs.Computing.Reading.{bracket_at}
use Rattle.glob_set.specs.declared.braces.lexemes.Lexeme.{Lexeme}
use Rattle.glob_set.specs.declared.braces.lexemes.Lexeme.TheVariants.{Literal, Open, Comma, Close}
use Rattle.glob_set.specs.declared.braces.error.BraceError.{BraceError}
use Rattle.glob_set.specs.declared.braces.error.BraceError.TheVariants.{Unmatched, Unclosed, TooMany}
use Rattle.glob_set.specs.declared.braces.error.BraceRefusal.{BraceRefusal}
use Rattle.glob_set.specs.declared.braces.error.BraceRefusal.TheVariants.{Syntax, Memory}

-- `{`
abbrev pub open_brace : ℕ
open_brace = 123

-- `}`
abbrev pub close_brace : ℕ
close_brace = 125

-- `,`
abbrev pub comma : ℕ
comma = 44

-- the end of a unit, or else the place f
abbrev pub end_or : ℕ → Option (Token × ℕ) → ℕ
end_or f None = f
end_or f (Some unit) = unit.1

-- the place after the bracket of a pattern at place f, or f if none begins there
abbrev pub bracket_end : Text → ℕ → ℕ
bracket_end text f = if has text f open_bracket then end_or f (bracket_at text f) else f

-- what a character means outside brackets
abbrev pub lexeme_of : ℕ → Lexeme
lexeme_of c =
    if c == open_brace then Open
    else if c == comma then Comma
    else if c == close_brace then Close
    else Literal c

-- what the character at place p means, if a bracket goes up to place e
abbrev pub lexeme_at : (p e c : ℕ) → Lexeme
lexeme_at p e c = if nat_lt p e then Literal c else lexeme_of c

-- the end of the bracket that contains place p, or p if none does; e is the end of the last bracket that begins before
-- p
abbrev pub end_at : Text → (p e : ℕ) → ℕ
end_at text p e = if nat_lt p e then e else bracket_end text p

-- the lexemes of the characters from place p on; e is the end of the last bracket that begins before it
abbrev pub lexemes_from : Text → (p e : ℕ) → Text → List Lexeme
lexemes_from text p e [] = []
lexemes_from text p e (c ∷ rest) =
    lexeme_at p (end_at text p e) c ∷ lexemes_from text (p + 1) (end_at text p e) rest

-- the lexemes of a text, one per character
unfoldable pub lexemes : Text → List Lexeme
lexemes text = lexemes_from text 0 0 text

-- each text with the same end appended
abbrev pub each_with : List Text → Text → List Text
each_with texts end = map (λ text. text ++ end) texts

-- each of the first texts followed by each of the second ones, in the order of the first
abbrev pub joined : List Text → List Text → List Text
joined firsts seconds = flat_map (λ first. map (λ second. first ++ second) seconds) firsts

mutual
  -- The lexemes are balanced, and these are their alternatives, as bytes, in the order of their choices from left to
  -- right. A comma outside all braces is literal.
  pub data HasAlternatives : (outside : Bool) → List Lexeme → List Text → Type 0 where
    at_start : (outside : Bool) → HasAlternatives outside [] ([] ∷ [])
    literal : (outside : Bool) (l : List Lexeme) (ts : List Text) (c : ℕ)
        → HasAlternatives outside l ts
        → HasAlternatives outside (l ++ Literal c ∷ []) (each_with ts (encode_utf8 c))
    comma_outside : (l : List Lexeme) (ts : List Text)
        → HasAlternatives true l ts
        → HasAlternatives true (l ++ Comma ∷ []) (each_with ts (encode_utf8 comma))
    -- `{`, branches that end in commas, a last branch, and `}`
    braces : (outside : Bool) (l b x : List Lexeme) (ts bs xs : List Text)
        → HasAlternatives outside l ts → HasEnded b bs → HasAlternatives false x xs
        → HasAlternatives outside (l ++ Open ∷ (b ++ x ++ Close ∷ [])) (joined ts (bs ++ xs))

  -- the lexemes are branches, each ended by a comma, with these alternatives in all
  pub data HasEnded : List Lexeme → List Text → Type 0 where
    no_branch : HasEnded [] []
    one_more : (b x : List Lexeme) (bs xs : List Text)
        → HasEnded b bs → HasAlternatives false x xs
        → HasEnded (b ++ x ++ Comma ∷ []) (bs ++ xs)

-- the text is balanced, and these are its alternatives, in order
unfoldable pub AreAlternatives : Text → List Text → Type 0
AreAlternatives text alternatives = HasAlternatives true (lexemes text) alternatives

-- the text is one of the texts
abbrev pub IsAmong : (texts : List Text) → (text : Text) → Type 0
IsAmong texts text =
    (number : ℕ) × (number < length texts) × (slice_index_or texts number [] ≡ text)

-- this is one of the alternatives of a balanced text
unfoldable pub IsAlternative : Text → (alternative : Text) → Type 0
IsAlternative text alternative =
    (alternatives : List Text) × AreAlternatives text alternatives × IsAmong alternatives alternative

-- the `}` at this place comes after balanced lexemes
unfoldable pub IsUnmatched : List Lexeme → (place : ℕ) → Type 0
IsUnmatched lexemes place =
    (l : List Lexeme) × (r : List Lexeme) × (ts : List Text)
    × (lexemes ≡ l ++ Close ∷ r) × (length l ≡ place) × HasAlternatives true l ts

-- The lexemes come after a `{` that is not closed: branches that end in commas, and a last one, perhaps with more open
-- braces.
pub data IsOpenEnded : List Lexeme → Type 0 where
  at_end : (b x : List Lexeme) (bs xs : List Text)
      → HasEnded b bs → HasAlternatives false x xs → IsOpenEnded (b ++ x)
  deeper : (r b x : List Lexeme) (bs xs : List Text)
      → IsOpenEnded r → HasEnded b bs → HasAlternatives false x xs → IsOpenEnded (r ++ Open ∷ (b ++ x))

-- the `{` at this place comes after balanced lexemes, and is not closed
unfoldable pub IsUnclosed : List Lexeme → (place : ℕ) → Type 0
IsUnclosed lexemes place =
    (l : List Lexeme) × (r : List Lexeme) × (ts : List Text)
    × (lexemes ≡ l ++ Open ∷ r) × (length l ≡ place) × HasAlternatives true l ts × IsOpenEnded r

-- the fault of lexemes
abbrev pub IsBraceFault : List Lexeme → BraceError → Type 0
IsBraceFault lexemes (Unmatched place) = IsUnmatched lexemes place
IsBraceFault lexemes (Unclosed place) = IsUnclosed lexemes place
IsBraceFault lexemes TooMany = (ts : List Text) × HasAlternatives true lexemes ts × (1000 < length ts)

-- what a refusal of lexemes reports: their fault, or a failed allocation
abbrev pub RefusesLexemes : List Lexeme → BraceRefusal → Type 0
RefusesLexemes lexemes (Syntax fault) = IsBraceFault lexemes fault
RefusesLexemes lexemes Memory = ⊤

-- what a refusal of a text reports
unfoldable pub RefusesBraces : Text → BraceRefusal → Type 0
RefusesBraces text refusal = RefusesLexemes (lexemes text) refusal
