-- The grammar of patterns: where their units are, and which texts are accepted.
use Rattle.std.specs.Prelude.{◌≡◌, ◌≢◌, ℕ, ◌+◌, ◌-◌, ◌<◌, ◌≤◌, ◌⊎◌, List, [], ◌∷◌, length, IsTrue}
use Rattle.glob_text.specs.Characters.{slash}
use Rattle.glob_pattern.specs.Grammar.Characters.{star, question_mark, open_bracket, close_bracket, exclamation_mark}
use Rattle.glob_text.specs.Text.{Text, Has, opens, between}
use Rattle.glob_pattern.specs.Grammar.Brackets.{entries_of}
use Rattle.glob_pattern.specs.Grammar.Tokens.{Token, tokens_of_units}
use Rattle.glob_pattern.specs.declared.token.Token.TheVariants.{Literal, AnyChar, AnySequence, Recursive, OneOf, NoneOf}

-- from place f on there are exactly n stars in a row, with none right before or after them
abbrev pub StarsAt : Text → ℕ → ℕ → Type 0
StarsAt text f n =
    ((k : ℕ) → f ≤ k → k < f + n → Has text k star)
    × (¬ (Has text (f + n) star))
    × (0 < f → ¬ (Has text (f - 1) star))

-- there is no `]` from place i up to place j
abbrev pub NoCloseBetween : Text → ℕ → ℕ → Type 0
NoCloseBetween text i j = (k : ℕ) → i ≤ k → k < j → ¬ (Has text k close_bracket)

-- the first `]` from place i on is right before place e
abbrev pub ClosesBefore : Text → ℕ → ℕ → Type 0
ClosesBefore text i e = (i < e) × Has text (e - 1) close_bracket × NoCloseBetween text i (e - 1)

-- a unit of this token is from place f up to place e
abbrev pub UnitAt : Text → ℕ → Token → ℕ → Type 0
UnitAt text f (Literal c) e =
    Has text f c × (c ≢ question_mark) × (c ≢ star) × (c ≢ open_bracket) × (e ≡ f + 1)
UnitAt text f AnyChar e = Has text f question_mark × (e ≡ f + 1)
UnitAt text f AnySequence e = StarsAt text f 1 × (e ≡ f + 1)
-- a following `/` belongs to the unit
UnitAt text f Recursive e =
    StarsAt text f 2 × IsTrue (opens text f)
    × (((e ≡ f + 2) × (e ≡ length text)) ⊎ ((e ≡ f + 3) × Has text (f + 2) slash))
-- `[`, a character other than `!`, any others up to `]`, and `]`
UnitAt text f (OneOf entries) e =
    Has text f open_bracket × (¬ (Has text (f + 1) exclamation_mark)) × ClosesBefore text (f + 2) e
    × (entries ≡ entries_of (between text (f + 1) (e - 1)))
-- `[!`, a character, any others up to `]`, and `]`
UnitAt text f (NoneOf entries) e =
    Has text f open_bracket × Has text (f + 1) exclamation_mark × ClosesBefore text (f + 3) e
    × (entries ≡ entries_of (between text (f + 2) (e - 1)))

-- units of these tokens follow each other from place f up to place e
abbrev pub UnitsBetween : Text → ℕ → List Token → ℕ → Type 0
UnitsBetween text f [] e = f ≡ e
UnitsBetween text f (t ∷ ts) e = (m : ℕ) × UnitAt text f t m × UnitsBetween text m ts e

-- the text is units of these tokens, one after another
abbrev pub HasUnits : Text → List Token → Type 0
HasUnits text units = UnitsBetween text 0 units (length text)

-- the text is accepted
unfoldable pub IsAccepted : Text → Type 0
IsAccepted text = (units : List Token) × HasUnits text units

-- the text is accepted, and these are its tokens: those of its units, with neighbouring `**` as one
abbrev pub HasTokens : Text → List Token → Type 0
HasTokens text tokens =
    (units : List Token) × HasUnits text units × (tokens ≡ tokens_of_units units)
