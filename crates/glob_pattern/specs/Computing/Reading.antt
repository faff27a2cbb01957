-- Reading a pattern, as a computation: its tokens, or its fault.
use Rattle.std.specs.Prelude.{◌≡◌, ℕ, zero, suc, ◌+◌, ◌||◌, not, nat_le, ◌==◌, if◌then◌else◌, List, [], ◌∷◌, length}
use Rattle.std.specs.Prelude.{drop, slice_index, Option, Some, None, Result, Ok, Err, option_map, ⊤}
use Rattle.std.specs.List.{position_from}
use Rattle.glob_text.specs.Characters.{slash}
use Rattle.glob_pattern.specs.Grammar.Characters.{star, question_mark, open_bracket, close_bracket, exclamation_mark}
use Rattle.glob_text.specs.Text.{Text, has, opens, between}
use Rattle.glob_pattern.specs.Grammar.Brackets.{entries_of}
use Rattle.glob_pattern.specs.Grammar.Tokens.{Token, tokens_of_units}
use Rattle.glob_pattern.specs.Grammar.Faults.{Fault, fault_at}
use Rattle.glob_pattern.specs.declared.error.PatternRefusal.{PatternRefusal}
use Rattle.glob_pattern.specs.declared.error.PatternRefusal.TheVariants.{Syntax, Memory}
use Rattle.glob_pattern.specs.declared.token.bracket.Entry.{Entry}
use Rattle.glob_pattern.specs.declared.token.Token.TheVariants.{Literal, AnyChar, AnySequence, Recursive, OneOf, NoneOf}

-- the stars at place f as a unit: its token, and the place after it
abbrev pub stars_at : Text → ℕ → Option (Token × ℕ)
stars_at text f =
    if not (has text (f + 1) star) then Some (AnySequence, f + 1)
    else if has text (f + 2) star || not (opens text f) then None
    else if has text (f + 2) slash then Some (Recursive, f + 3)
    else if f + 2 == length text then Some (Recursive, f + 2)
    else None

-- the place of the first `]` from place i on
abbrev pub close_from : Text → ℕ → Option ℕ
close_from text i = position_from (λ c. c == close_bracket) i (drop i text)

-- a bracket whose content begins at place i
abbrev pub bracket_from : (List Entry → Token) → Text → ℕ → Option (Token × ℕ)
bracket_from kind text i =
    option_map (λ k. (kind (entries_of (between text i k)), k + 1)) (close_from text (i + 1))

-- the bracket at place f as a unit
abbrev pub bracket_at : Text → ℕ → Option (Token × ℕ)
bracket_at text f =
    if has text (f + 1) exclamation_mark then bracket_from NoneOf text (f + 2)
    else bracket_from OneOf text (f + 1)

-- the unit at place f, which must be before the end and not right after a star
abbrev pub unit_at : Text → ℕ → Option (Token × ℕ)
unit_at text f =
    if slice_index text f == question_mark then Some (AnyChar, f + 1)
    else if slice_index text f == star then stars_at text f
    else if slice_index text f == open_bracket then bracket_at text f
    else Some (Literal (slice_index text f), f + 1)

-- the refusal reports this place and message
abbrev pub IsRefusalAt : (place : ℕ) → (message : List ℕ) → PatternRefusal → Type 0
IsRefusalAt place message (Syntax e) = (e.pos ≡ place) × (e.msg.now ≡ message)
IsRefusalAt place message Memory = ⊥

-- what a refusal reports if place f has no unit: the fault there, or a failed allocation
abbrev pub RefusesAt : Text → ℕ → PatternRefusal → Type 0
RefusesAt text f (Syntax e) =
    (unit_at text f ≡ None) × (e.pos ≡ (fault_at text f).place) × (e.msg.now ≡ (fault_at text f).message)
RefusesAt text f Memory = ⊤

-- a token in front of those that were read
abbrev pub reading_with_first : Token → Result (List Token) Fault → Result (List Token) Fault
reading_with_first t (Ok ts) = Ok (t ∷ ts)
reading_with_first t (Err fault) = Err fault

-- the unit at place f in front of what is read after it, or the fault at place f if it has no unit
abbrev pub reading_after_unit : Text → ℕ → (ℕ → Result (List Token) Fault) → Option (Token × ℕ)
    → Result (List Token) Fault
reading_after_unit text f read None = Err (fault_at text f)
reading_after_unit text f read (Some (t, e)) = reading_with_first t (read e)

-- the tokens of the units from place f on, or the fault; n must be more than the number of characters left
unfoldable pub units_from : ℕ → Text → ℕ → Result (List Token) Fault
units_from zero text f = Ok []
units_from (suc n) text f =
    if nat_le (length text) f then Ok []
    else reading_after_unit text f (units_from n text) (unit_at text f)

-- the tokens of the units that were read
abbrev pub tokens_of_reading : Result (List Token) Fault → Result (List Token) Fault
tokens_of_reading (Ok units) = Ok (tokens_of_units units)
tokens_of_reading (Err fault) = Err fault

-- the tokens of an accepted text, or the fault of any other
abbrev pub reading_of : Text → Result (List Token) Fault
reading_of text = tokens_of_reading (units_from (suc (length text)) text 0)
