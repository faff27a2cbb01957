-- Whether a pattern matches a text, as a `Bool`. A walk's listing and the matches of a set are lists that definitions
-- compute, so each test in them has to be a `Bool`; the law `matching_is_decided` ties this one to `Matches`.
use Rattle.std.specs.Prelude.{ℕ, Bool, true, false, ◌&&◌, ◌||◌, ◌==◌, List, [], ◌∷◌, Result, Ok, Err}
use Rattle.glob_text.specs.Characters.{slash}
use Rattle.glob_text.specs.Text.{Text}
use Rattle.glob_pattern.specs.Grammar.Tokens.{Token}
use Rattle.glob_pattern.specs.Matching.Taking.{takes}
use Rattle.glob_pattern.specs.Grammar.Faults.{Fault}
use Rattle.glob_pattern.specs.Computing.Reading.{reading_of}
use Rattle.glob_pattern.specs.declared.options.MatchOptions.{MatchOptions}
use Rattle.glob_pattern.specs.declared.token.Token.TheVariants.{Literal, AnyChar, AnySequence, Recursive, OneOf, NoneOf}

-- the characters of a text, each with whether a component begins there
abbrev pub characters_with_openings : (opening : Bool) → Text → List (Bool × ℕ)
characters_with_openings opening [] = []
characters_with_openings opening (c ∷ cs) = (opening, c) ∷ characters_with_openings (c == slash) cs

-- Below, `rests` are answers: for each suffix of a text, from the whole text to the empty one, whether some tokens
-- match it.

-- the answer for the whole text
abbrev pub first_answer : (rests : List Bool) → Bool
first_answer [] = false
first_answer (r ∷ rs) = r

-- the answers for the suffixes after the first
abbrev pub later_answers : (rests : List Bool) → List Bool
later_answers [] = []
later_answers (r ∷ rs) = rs

-- no token is left: only the empty suffix matches
abbrev pub answers_at_end : List (Bool × ℕ) → List Bool
answers_at_end [] = true ∷ []
answers_at_end (x ∷ xs) = false ∷ answers_at_end xs

-- the token takes the character
abbrev pub is_taken : MatchOptions → Token → Bool × ℕ → Bool
is_taken o t (opening, c) = takes o opening c t

-- a token that takes one character, before tokens that match the `rests`
abbrev pub one_character_answers : MatchOptions → Token → List (Bool × ℕ) → (rests : List Bool)
    → List Bool
one_character_answers o t [] rests = false ∷ []
one_character_answers o t (x ∷ xs) rests =
    (is_taken o t x && first_answer (later_answers rests))
    ∷ one_character_answers o t xs (later_answers rests)

-- a token that takes any number of characters, before tokens that match the `rests`
abbrev pub run_answers : MatchOptions → Token → List (Bool × ℕ) → (rests : List Bool) → List Bool
run_answers o t [] rests = first_answer rests ∷ []
run_answers o t (x ∷ xs) rests = many_more x (run_answers o t xs (later_answers rests))
  where
    many_more : Bool × ℕ → List Bool → List Bool
    many_more y later = (first_answer rests || (is_taken o t y && first_answer later)) ∷ later

-- a piece that is not empty and ends in `/`, all taken by the token, before tokens that match the `rests`
abbrev pub component_answers : MatchOptions → Token → List (Bool × ℕ) → (rests : List Bool)
    → List Bool
component_answers o t [] rests = false ∷ []
component_answers o t ((opening, c) ∷ xs) rests =
    closed_more (component_answers o t xs (later_answers rests))
  where
    closed_more : List Bool → List Bool
    closed_more later =
        (takes o opening c t
        && ((c == slash && first_answer (later_answers rests)) || first_answer later)) ∷ later

-- for each suffix, whether one of the two lists says yes
abbrev pub joined_answers : List Bool → List Bool → List Bool
joined_answers [] bs = bs
joined_answers (x ∷ xs) bs = (x || first_answer bs) ∷ joined_answers xs (later_answers bs)

-- any token, before the tokens `others`, which match the `rests`
abbrev pub token_answers : MatchOptions → Token → (others : List Token) → List (Bool × ℕ)
    → (rests : List Bool) → List Bool
token_answers o (Literal c) others xs rests = one_character_answers o (Literal c) xs rests
token_answers o AnyChar others xs rests = one_character_answers o AnyChar xs rests
token_answers o AnySequence others xs rests = run_answers o AnySequence xs rests
token_answers o Recursive [] xs rests = run_answers o Recursive xs rests
token_answers o Recursive (t ∷ ts) xs rests = joined_answers rests (component_answers o Recursive xs rests)
token_answers o (OneOf entries) others xs rests = one_character_answers o (OneOf entries) xs rests
token_answers o (NoneOf entries) others xs rests = one_character_answers o (NoneOf entries) xs rests

-- for each suffix, whether the tokens match it
abbrev pub tokens_answers : MatchOptions → List Token → List (Bool × ℕ) → List Bool
tokens_answers o [] xs = answers_at_end xs
tokens_answers o (t ∷ ts) xs = token_answers o t ts xs (tokens_answers o ts xs)

-- the tokens match the text
unfoldable pub tokens_match : MatchOptions → List Token → Text → Bool
tokens_match o tokens text =
    first_answer (tokens_answers o tokens (characters_with_openings true text))

-- the tokens that were read match the text; a fault matches nothing
abbrev pub match_of_reading : MatchOptions → Result (List Token) Fault → Text → Bool
match_of_reading o (Ok tokens) text = tokens_match o tokens text
match_of_reading o (Err fault) text = false

-- the pattern is accepted and matches the text
unfoldable pub is_match : MatchOptions → (pattern : Text) → Text → Bool
is_match o pattern text = match_of_reading o (reading_of pattern) text
