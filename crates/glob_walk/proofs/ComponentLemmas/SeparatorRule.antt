-- The separator rule has no effect on a text without separators.
use Rattle.std.proofs.Common.{◌≡◌, ℕ, Bool, true, false, not, ◌&&◌, ◌||◌, ◌==◌, List, [], ◌∷◌, refl, sym, ap, ap₂, ◌∙◌}
use Rattle.std.specs.Prelude.{Result, Ok, Err}
use Rattle.std.specs.Path.{has_no_slash}
use Rattle.glob_text.specs.Characters.{slash}
use Rattle.glob_text.specs.Text.{Text}
use Rattle.glob_pattern.specs.Grammar.Tokens.{Token}
use Rattle.glob_pattern.specs.Matching.Taking.{is_excluded_dot, takes}
use Rattle.glob_pattern.specs.Grammar.Faults.{Fault}
use Rattle.glob_pattern.specs.Computing.Reading.{reading_of}
use Rattle.glob_pattern.specs.Computing.Deciding.{match_of_reading, is_match}
use Rattle.glob_pattern.specs.Matching.Components.{with_separator_rule}
use Rattle.glob_pattern.specs.declared.options.MatchOptions.{MatchOptions}
use Rattle.glob_pattern.specs.declared.token.Token.TheVariants.{Literal, AnyChar, AnySequence, Recursive, OneOf, NoneOf}
use Rattle.glob_walk.proofs.ComponentLemmas.Fits.{After, one_then, many_then, closed_then, fits, tokens_match-fits}
use Rattle.glob_walk.proofs.ComponentLemmas.FirstSeparator.{no_slash_parts}
use Rattle.glob_pattern.specs.Grammar.Brackets.{holds}

-- the separator rule allows every character but `/`
kept : (s x : Bool) → x ≡ false → (s && x) ≡ (true && x)
kept true x e = refl
kept false x e = sym e

takes-kept : (o : MatchOptions) (b : Bool) (c : ℕ) (t : Token) → (c == slash) ≡ false → takes o b c t ≡ takes (with_separator_rule o) b c t
takes-kept o b c (Literal x) e = refl
takes-kept o b c AnyChar e = ap (λ k. not k && not (is_excluded_dot o b c)) (kept o.require_literal_separator (c == slash) e)
takes-kept o b c AnySequence e = ap (λ k. not k && not (is_excluded_dot o b c)) (kept o.require_literal_separator (c == slash) e)
takes-kept o b c Recursive e = refl
takes-kept o b c (OneOf entries) e =
    ap (λ k. not k && not (is_excluded_dot o b c) && holds o.case_sensitive c entries) (kept o.require_literal_separator (c == slash) e)
takes-kept o b c (NoneOf entries) e =
    ap (λ k. not k && not (is_excluded_dot o b c) && not (holds o.case_sensitive c entries))
    (kept o.require_literal_separator (c == slash) e)

abbrev Alike : After → After → Type 0
Alike f g = (b : Bool) (cs : Text) → has_no_slash cs ≡ true → f b cs ≡ g b cs

Alike-one : (o : MatchOptions) (t : Token) (f g : After) → Alike f g → Alike (one_then o t f) (one_then (with_separator_rule o) t g)
Alike-one o t f g same b [] h = refl
Alike-one o t f g same b (c ∷ cs) h = let parts = no_slash_parts c cs h in ap₂ (λ x y. x && y)
    (takes-kept o b c t parts.0) (same (c == slash) cs parts.1)

Alike-many : (o : MatchOptions) (t : Token) (f g : After) → Alike f g → Alike (many_then o t f) (many_then (with_separator_rule o) t g)
Alike-many o t f g same b [] h = same b [] h
Alike-many o t f g same b (c ∷ cs) h =
    let parts = no_slash_parts c cs h in
    ap₂ (λ x y. x || y) (same b (c ∷ cs) h) (ap₂ (λ x y. x && y) (takes-kept o b c t parts.0) (Alike-many o t f g same
    (c == slash) cs parts.1))

Alike-closed : (o : MatchOptions) (t : Token) (f g : After) → Alike f g → Alike (closed_then o t f)
    (closed_then (with_separator_rule o) t g)
Alike-closed o t f g same b [] h = refl
Alike-closed o t f g same b (c ∷ cs) h =
    let parts = no_slash_parts c cs h in
    ap₂ (λ x y. x && y) (takes-kept o b c t parts.0)
    (ap₂ (λ x y. x || y) (ap (λ x. c == slash && x) (same (c == slash) cs parts.1)) (Alike-closed o t f g same (c == slash) cs parts.1))

alike : (o : MatchOptions) (ts : List Token) → Alike (fits o ts) (fits (with_separator_rule o) ts)
alike o [] = λ b cs h. refl
alike o (Literal x ∷ ts) = Alike-one o (Literal x) (fits o ts) (fits (with_separator_rule o) ts) (alike o ts)
alike o (AnyChar ∷ ts) = Alike-one o AnyChar (fits o ts) (fits (with_separator_rule o) ts) (alike o ts)
alike o (AnySequence ∷ ts) = Alike-many o AnySequence (fits o ts) (fits (with_separator_rule o) ts) (alike o ts)
alike o (Recursive ∷ []) = Alike-many o Recursive (fits o []) (fits (with_separator_rule o) []) (alike o [])
alike o (Recursive ∷ t ∷ ts) = λ b cs h.
    ap₂ (λ x y. x || y) (alike o (t ∷ ts) b cs h) (Alike-closed o Recursive (fits o (t ∷ ts))
    (fits (with_separator_rule o) (t ∷ ts)) (alike o (t ∷ ts)) b cs h)
alike o (OneOf entries ∷ ts) = Alike-one o (OneOf entries) (fits o ts) (fits (with_separator_rule o) ts) (alike o ts)
alike o (NoneOf entries ∷ ts) = Alike-one o (NoneOf entries) (fits o ts) (fits (with_separator_rule o) ts) (alike o ts)

-- A text without separators is matched under the separator rule exactly when it is matched without it.
pub separator_rule_free : (o : MatchOptions) (pattern text : Text) → has_no_slash text ≡ true → is_match
    (with_separator_rule o) pattern text ≡ is_match o pattern text
unfolding is_match
separator_rule_free o pattern text h = by_reading (reading_of pattern)
  where
    by_reading : (read : Result (List Token) Fault) → match_of_reading (with_separator_rule o) read text ≡ match_of_reading o read text
    by_reading (Ok tokens) =
        tokens_match-fits (with_separator_rule o) tokens text
        ∙ sym (alike o tokens true text h)
        ∙ sym (tokens_match-fits o tokens text)
    by_reading (Err fault) = refl
