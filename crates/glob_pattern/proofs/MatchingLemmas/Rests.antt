-- The computed answers for a text, in terms of the answers for its suffixes.
use Rattle.std.proofs.Common.{◌≡◌, ℕ, Bool, ◌&&◌, ◌||◌, ◌==◌, List, [], ◌∷◌, refl, ap, ◌∙◌}
use Rattle.glob_text.specs.Characters.{slash}
use Rattle.glob_pattern.specs.Grammar.Tokens.{Token}
use Rattle.glob_pattern.specs.Matching.Taking.{takes}
use Rattle.glob_pattern.specs.Computing.Deciding.{first_answer, later_answers, is_taken, one_character_answers}
use Rattle.glob_pattern.specs.Computing.Deciding.{run_answers, component_answers, joined_answers, tokens_answers}
use Rattle.glob_pattern.specs.declared.options.MatchOptions.{MatchOptions}
use Rattle.glob_pattern.specs.declared.token.Token.TheVariants.{Literal, AnyChar, AnySequence, Recursive, OneOf, NoneOf}

-- the tokens match these characters, each with whether a component begins there
abbrev pub tokens_match_rest : MatchOptions → List Token → List (Bool × ℕ) → Bool
tokens_match_rest o ts xs = first_answer (tokens_answers o ts xs)

-- the later answers of two joined lists
pub later_answers-joined_answers : (bs cs : List Bool) → later_answers (joined_answers bs cs) ≡ joined_answers
    (later_answers bs) (later_answers cs)
later_answers-joined_answers [] cs = refl
later_answers-joined_answers (b ∷ bs) cs = refl

-- the first answer of two joined lists
pub first_answer-joined_answers : (bs cs : List Bool) → first_answer (joined_answers bs cs) ≡ (first_answer bs || first_answer cs)
first_answer-joined_answers [] cs = refl
first_answer-joined_answers (b ∷ bs) cs = refl

-- the answers after the first are the answers for the characters after the first
pub later_answers-tokens_answers : (o : MatchOptions) (ts : List Token) (x : Bool × ℕ) (xs : List (Bool × ℕ))
    → later_answers (tokens_answers o ts (x ∷ xs)) ≡ tokens_answers o ts xs
later_answers-tokens_answers o [] x xs = refl
later_answers-tokens_answers o (Literal c ∷ ts) x xs = ap (one_character_answers o (Literal c) xs) (later_answers-tokens_answers o ts x xs)
later_answers-tokens_answers o (AnyChar ∷ ts) x xs = ap (one_character_answers o AnyChar xs) (later_answers-tokens_answers o ts x xs)
later_answers-tokens_answers o (AnySequence ∷ ts) x xs = ap (run_answers o AnySequence xs) (later_answers-tokens_answers o ts x xs)
later_answers-tokens_answers o (Recursive ∷ []) x xs = ap (run_answers o Recursive xs) (later_answers-tokens_answers o [] x xs)
later_answers-tokens_answers o (Recursive ∷ t ∷ ts) x xs =
    later_answers-joined_answers (tokens_answers o (t ∷ ts) (x ∷ xs)) (component_answers o Recursive (x ∷ xs)
    (tokens_answers o (t ∷ ts) (x ∷ xs)))
    ∙ ap (λ rs. joined_answers rs (component_answers o Recursive xs rs)) (later_answers-tokens_answers o (t ∷ ts) x xs)
later_answers-tokens_answers o (OneOf entries ∷ ts) x xs = ap (one_character_answers o (OneOf entries) xs)
    (later_answers-tokens_answers o ts x xs)
later_answers-tokens_answers o (NoneOf entries ∷ ts) x xs = ap (one_character_answers o (NoneOf entries) xs)
    (later_answers-tokens_answers o ts x xs)

-- a first token that takes one character
pub first_answer-one_character_answers : (o : MatchOptions) (t : Token) (ts : List Token) (x : Bool × ℕ)
    (xs : List (Bool × ℕ)) → first_answer (one_character_answers o t (x ∷ xs) (tokens_answers o ts (x ∷ xs))) ≡
    (is_taken o t x && tokens_match_rest o ts xs)
first_answer-one_character_answers o t ts x xs = ap (λ rs. is_taken o t x && first_answer rs) (later_answers-tokens_answers o ts x xs)

-- a first token that takes any number of characters
pub first_answer-run_answers : (o : MatchOptions) (t : Token) (ts : List Token) (x : Bool × ℕ) (xs : List (Bool × ℕ))
    → first_answer (run_answers o t (x ∷ xs) (tokens_answers o ts (x ∷ xs))) ≡ (tokens_match_rest o ts (x ∷ xs) ||
    (is_taken o t x && first_answer (run_answers o t xs (tokens_answers o ts xs))))
first_answer-run_answers o t ts x xs =
    ap (λ rs. tokens_match_rest o ts (x ∷ xs) || (is_taken o t x && first_answer (run_answers o t xs rs)))
    (later_answers-tokens_answers o ts x xs)

-- a piece that is not empty and ends in `/`
pub first_answer-component_answers : (o : MatchOptions) (t : Token) (ts : List Token) (opening : Bool) (c : ℕ)
    (xs : List (Bool × ℕ)) → first_answer (component_answers o t ((opening, c) ∷ xs) (tokens_answers o ts
    ((opening, c) ∷ xs))) ≡ (takes o opening c t && ((c == slash && tokens_match_rest o ts xs) || first_answer
    (component_answers o t xs (tokens_answers o ts xs))))
first_answer-component_answers o t ts opening c xs =
    ap (λ rs. takes o opening c t && ((c == slash && first_answer rs) || first_answer (component_answers o t xs rs)))
    (later_answers-tokens_answers o ts (opening, c) xs)
