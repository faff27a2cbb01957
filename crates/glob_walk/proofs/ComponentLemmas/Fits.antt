-- `fits`: tokens against a text, by recursion from its first character on. It returns what the decider returns.
use Rattle.std.proofs.Common.{◌≡◌, Bool, true, false, ◌&&◌, ◌||◌, ◌==◌, List, [], ◌∷◌, refl, ap, ap₂, ◌∙◌}
use Rattle.glob_text.specs.Characters.{slash}
use Rattle.glob_text.specs.Text.{Text}
use Rattle.glob_pattern.specs.Grammar.Tokens.{Token}
use Rattle.glob_pattern.specs.Matching.Taking.{takes}
use Rattle.glob_pattern.specs.Computing.Deciding.{characters_with_openings, first_answer, one_character_answers}
use Rattle.glob_pattern.specs.Computing.Deciding.{run_answers, component_answers, tokens_answers, tokens_match}
use Rattle.glob_pattern.specs.declared.options.MatchOptions.{MatchOptions}
use Rattle.glob_pattern.specs.declared.token.Token.TheVariants.{Literal, AnyChar, AnySequence, Recursive, OneOf, NoneOf}
use Rattle.glob_pattern.proofs.MatchingLemmas.Rests.{tokens_match_rest, first_answer-joined_answers}
use Rattle.glob_pattern.proofs.MatchingLemmas.Rests.{first_answer-one_character_answers, first_answer-run_answers}
use Rattle.glob_pattern.proofs.MatchingLemmas.Rests.{first_answer-component_answers}
use Rattle.glob_text.specs.Pieces.{is_empty}

-- a result for the rest of a text; the flag says whether a name starts there
abbrev pub After : Type 0
After = Bool → Text → Bool

-- the token takes one character, and `next` takes the rest
abbrev pub one_then : MatchOptions → Token → After → After
one_then o t next b [] = false
one_then o t next b (c ∷ cs) = takes o b c t && next (c == slash) cs

-- the token takes any number of characters, and `next` takes the rest
abbrev pub many_then : MatchOptions → Token → After → After
many_then o t next b [] = next b []
many_then o t next b (c ∷ cs) = next b (c ∷ cs) || (takes o b c t && many_then o t next (c == slash) cs)

-- the token takes some characters, the last of them `/`, and `next` takes the rest
abbrev pub closed_then : MatchOptions → Token → After → After
closed_then o t next b [] = false
closed_then o t next b (c ∷ cs) = takes o b c t && ((c == slash && next (c == slash) cs) || closed_then o t next (c == slash) cs)

abbrev pub fits : MatchOptions → List Token → After
fits o [] b cs = is_empty cs
fits o (Literal x ∷ ts) b cs = one_then o (Literal x) (fits o ts) b cs
fits o (AnyChar ∷ ts) b cs = one_then o AnyChar (fits o ts) b cs
fits o (AnySequence ∷ ts) b cs = many_then o AnySequence (fits o ts) b cs
fits o (Recursive ∷ []) b cs = many_then o Recursive (fits o []) b cs
fits o (Recursive ∷ t ∷ ts) b cs = fits o (t ∷ ts) b cs || closed_then o Recursive (fits o (t ∷ ts)) b cs
fits o (OneOf entries ∷ ts) b cs = one_then o (OneOf entries) (fits o ts) b cs
fits o (NoneOf entries ∷ ts) b cs = one_then o (NoneOf entries) (fits o ts) b cs

-- the decider agrees with `fits` at each rest of a text
abbrev Agree : MatchOptions → List Token → Type 0
Agree o ts = (b : Bool) (cs : Text) → tokens_match_rest o ts (characters_with_openings b cs) ≡ fits o ts b cs

Agree-one : (o : MatchOptions) (t : Token) (ts : List Token) → Agree o ts → (b : Bool) (cs : Text)
    → first_answer (one_character_answers o t (characters_with_openings b cs) (tokens_answers o ts
    (characters_with_openings b cs))) ≡ one_then o t (fits o ts) b cs
Agree-one o t ts next b [] = refl
Agree-one o t ts next b (c ∷ cs) =
    first_answer-one_character_answers o t ts (b, c) (characters_with_openings (c == slash) cs) ∙ ap
    (λ x. takes o b c t && x) (next (c == slash) cs)

Agree-many : (o : MatchOptions) (t : Token) (ts : List Token) → Agree o ts → (b : Bool) (cs : Text)
    → first_answer (run_answers o t (characters_with_openings b cs) (tokens_answers o ts
    (characters_with_openings b cs))) ≡ many_then o t (fits o ts) b cs
Agree-many o t ts next b [] = next b []
Agree-many o t ts next b (c ∷ cs) =
    first_answer-run_answers o t ts (b, c) (characters_with_openings (c == slash) cs)
    ∙ ap₂ (λ x y. x || (takes o b c t && y)) (next b (c ∷ cs)) (Agree-many o t ts next (c == slash) cs)

Agree-closed : (o : MatchOptions) (t : Token) (ts : List Token) → Agree o ts → (b : Bool) (cs : Text)
    → first_answer (component_answers o t (characters_with_openings b cs) (tokens_answers o ts
    (characters_with_openings b cs))) ≡ closed_then o t (fits o ts) b cs
Agree-closed o t ts next b [] = refl
Agree-closed o t ts next b (c ∷ cs) =
    first_answer-component_answers o t ts b c (characters_with_openings (c == slash) cs)
    ∙ ap₂ (λ x y. takes o b c t && ((c == slash && x) || y)) (next (c == slash) cs) (Agree-closed o t ts next (c == slash) cs)

pub agree : (o : MatchOptions) (ts : List Token) → Agree o ts
agree o [] b [] = refl
agree o [] b (c ∷ cs) = refl
agree o (Literal x ∷ ts) b cs = Agree-one o (Literal x) ts (agree o ts) b cs
agree o (AnyChar ∷ ts) b cs = Agree-one o AnyChar ts (agree o ts) b cs
agree o (AnySequence ∷ ts) b cs = Agree-many o AnySequence ts (agree o ts) b cs
agree o (Recursive ∷ []) b cs = Agree-many o Recursive [] (agree o []) b cs
agree o (Recursive ∷ t ∷ ts) b cs =
    first_answer-joined_answers (tokens_answers o (t ∷ ts) (characters_with_openings b cs))
    (component_answers o Recursive (characters_with_openings b cs) (tokens_answers o (t ∷ ts)
    (characters_with_openings b cs)))
    ∙ ap₂ (λ x y. x || y) (agree o (t ∷ ts) b cs) (Agree-closed o Recursive (t ∷ ts) (agree o (t ∷ ts)) b cs)
agree o (OneOf entries ∷ ts) b cs = Agree-one o (OneOf entries) ts (agree o ts) b cs
agree o (NoneOf entries ∷ ts) b cs = Agree-one o (NoneOf entries) ts (agree o ts) b cs

-- the decider is `fits`
pub tokens_match-fits : (o : MatchOptions) (ts : List Token) (cs : Text) → tokens_match o ts cs ≡ fits o ts true cs
unfolding tokens_match
tokens_match-fits o ts cs = agree o ts true cs
