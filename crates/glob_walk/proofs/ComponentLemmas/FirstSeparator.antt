-- The text of joined names, cut at its separators as the components' tokens take it.
use Rattle.std.proofs.Common.{◌≡◌, ℕ, Bool, true, false, not, ◌&&◌, ◌||◌, ◌==◌, List, [], ◌∷◌, ◌++◌, refl, sym, ap, ap₂, ◌∙◌}
use mathlib.Core.Bool.{and_assoc, and-false, or-false}
use Rattle.std.specs.List.{list_all}
use Rattle.std.specs.Path.{has_no_slash}
use Rattle.std.proofs.lemmas.Bool.{false≢true, and_parts, not-true}
use Rattle.glob_text.specs.Characters.{slash}
use Rattle.glob_text.specs.Text.{Text}
use Rattle.glob_pattern.specs.Grammar.Tokens.{Token}
use Rattle.glob_pattern.specs.Matching.Taking.{takes}
use Rattle.glob_pattern.specs.declared.options.MatchOptions.{MatchOptions}
use Rattle.glob_pattern.specs.declared.token.Token.TheVariants.{Literal, AnyChar, AnySequence, Recursive, OneOf, NoneOf}
use Rattle.glob_pattern.proofs.MatchingLemmas.Case.{same-slash}
use Rattle.glob_walk.proofs.ComponentLemmas.Fits.{After, one_then, many_then, fits}
use Rattle.glob_pattern.specs.Matching.Components.{with_separator_rule}
use Rattle.glob_walk.proofs.ComponentLemmas.Parts.{is_inner}

or_and : (x t y z : Bool) → ((x && z) || (t && (y && z))) ≡ ((x || (t && y)) && z)
or_and true t y true = refl
or_and true true y false = and-false y
or_and true false y false = refl
or_and false t y z = sym (and_assoc t y z)

-- the token takes no separator
abbrev pub Shuns : MatchOptions → Token → Type 0
Shuns o t = (b : Bool) → takes (with_separator_rule o) b slash t ≡ false

pub shuns : (o : MatchOptions) (t : Token) → is_inner t ≡ true → Shuns o t
shuns o (Literal c) h b = (same-slash o.case_sensitive c (not-true (c == slash) h)).0
shuns o AnyChar h b = refl
shuns o AnySequence h b = refl
shuns o Recursive h b = absurd (false≢true h)
shuns o (OneOf entries) h b = refl
shuns o (NoneOf entries) h b = refl

-- what comes after a text without separators, a separator and a rest
abbrev pub Cuts : (rest : Bool) → Text → (after next : After) → Type 0
Cuts rest r after next = (b : Bool) (n : Text) → has_no_slash n ≡ true → after b (n ++ slash ∷ r) ≡ (next b n && rest)

abbrev pub Falls : (after : After) → Type 0
Falls after = (b : Bool) (n : Text) → has_no_slash n ≡ true → after b n ≡ false

-- the first character of a text without separators, and the others
pub no_slash_parts : (c : ℕ) (n : Text) → has_no_slash (c ∷ n) ≡ true → ((c == slash) ≡ false) × (has_no_slash n ≡ true)
no_slash_parts c n h = let both = and_parts (not (c == slash)) (has_no_slash n) h in (not-true (c == slash) both.0, both.1)

Cuts-one : (o : MatchOptions) (t : Token) → Shuns o t → (z : Bool) (r : Text) (after next : After) → Cuts z r after
    next → Cuts z r (one_then (with_separator_rule o) t after) (one_then (with_separator_rule o) t next)
Cuts-one o t s z r after next cut b [] h = ap (λ x. x && after true r) (s b)
Cuts-one o t s z r after next cut b (c ∷ n) h =
    ap (λ x. takes (with_separator_rule o) b c t && x) (cut (c == slash) n (no_slash_parts c n h).1) ∙ sym
    (and_assoc (takes (with_separator_rule o) b c t) (next (c == slash) n) z)

Cuts-many : (o : MatchOptions) (t : Token) → Shuns o t → (z : Bool) (r : Text) (after next : After) → Cuts z r after
    next → Cuts z r (many_then (with_separator_rule o) t after) (many_then (with_separator_rule o) t next)
Cuts-many o t s z r after next cut b [] h = ap₂ (λ x y. x || (y && many_then (with_separator_rule o) t after true r))
    (cut b [] refl) (s b) ∙ or-false (next b [] && z)
Cuts-many o t s z r after next cut b (c ∷ n) h =
    ap₂ (λ x y. x || (takes (with_separator_rule o) b c t && y)) (cut b (c ∷ n) h) (Cuts-many o t s z r after next cut
    (c == slash) n (no_slash_parts c n h).1)
    ∙ or_and (next b (c ∷ n)) (takes (with_separator_rule o) b c t) (many_then (with_separator_rule o) t next (c == slash) n) z

Falls-one : (o : MatchOptions) (t : Token) (after : After) → Falls after → Falls (one_then (with_separator_rule o) t after)
Falls-one o t after fall b [] h = refl
Falls-one o t after fall b (c ∷ n) h = ap (λ x. takes (with_separator_rule o) b c t && x) (fall (c == slash) n
    (no_slash_parts c n h).1) ∙ and-false (takes (with_separator_rule o) b c t)

Falls-many : (o : MatchOptions) (t : Token) (after : After) → Falls after → Falls (many_then (with_separator_rule o) t after)
Falls-many o t after fall b [] h = fall b [] h
Falls-many o t after fall b (c ∷ n) h =
    ap₂ (λ x y. x || (takes (with_separator_rule o) b c t && y)) (fall b (c ∷ n) h) (Falls-many o t after fall
    (c == slash) n (no_slash_parts c n h).1)
    ∙ and-false (takes (with_separator_rule o) b c t)

-- a separator
Cuts-slash : (o : MatchOptions) (r : Text) (vs : List Token) → Cuts (fits (with_separator_rule o) vs true r) r
    (fits (with_separator_rule o) (Literal slash ∷ vs)) (fits (with_separator_rule o) [])
Cuts-slash o r vs b [] h = refl
Cuts-slash o r vs b (c ∷ n) h =
    ap (λ x. x && fits (with_separator_rule o) vs (c == slash) (n ++ slash ∷ r)) (same-slash o.case_sensitive c (no_slash_parts c n h).0).1

Falls-slash : (o : MatchOptions) (vs : List Token) → Falls (fits (with_separator_rule o) (Literal slash ∷ vs))
Falls-slash o vs b [] h = refl
Falls-slash o vs b (c ∷ n) h =
    ap (λ x. x && fits (with_separator_rule o) vs (c == slash) n) (same-slash o.case_sensitive c (no_slash_parts c n h).0).1

-- the tokens of a component, a separator, and more tokens
pub cut : (o : MatchOptions) (ts vs : List Token) → list_all is_inner ts ≡ true → (r : Text) → Cuts
    (fits (with_separator_rule o) vs true r) r (fits (with_separator_rule o) (ts ++ Literal slash ∷ vs))
    (fits (with_separator_rule o) ts)
cut o [] vs h r = Cuts-slash o r vs
cut o (Literal x ∷ ts) vs h r = let both = and_parts (is_inner (Literal x)) (list_all is_inner ts) h in
    Cuts-one o (Literal x) (shuns o (Literal x) both.0) (fits (with_separator_rule o) vs true r) r
    (fits (with_separator_rule o) (ts ++ Literal slash ∷ vs)) (fits (with_separator_rule o) ts)
    (cut o ts vs both.1 r)
cut o (AnyChar ∷ ts) vs h r =
    Cuts-one o AnyChar (shuns o AnyChar refl) (fits (with_separator_rule o) vs true r) r (fits (with_separator_rule o)
    (ts ++ Literal slash ∷ vs)) (fits (with_separator_rule o) ts) (cut o ts vs h r)
cut o (AnySequence ∷ ts) vs h r =
    Cuts-many o AnySequence (shuns o AnySequence refl) (fits (with_separator_rule o) vs true r) r
    (fits (with_separator_rule o) (ts ++ Literal slash ∷ vs)) (fits (with_separator_rule o) ts) (cut o ts vs h r)
cut o (Recursive ∷ ts) vs h r = absurd (false≢true h)
cut o (OneOf entries ∷ ts) vs h r =
    Cuts-one o (OneOf entries) (shuns o (OneOf entries) refl) (fits (with_separator_rule o) vs true r) r
    (fits (with_separator_rule o) (ts ++ Literal slash ∷ vs)) (fits (with_separator_rule o) ts) (cut o ts vs h r)
cut o (NoneOf entries ∷ ts) vs h r =
    Cuts-one o (NoneOf entries) (shuns o (NoneOf entries) refl) (fits (with_separator_rule o) vs true r) r
    (fits (with_separator_rule o) (ts ++ Literal slash ∷ vs)) (fits (with_separator_rule o) ts) (cut o ts vs h r)

pub fall : (o : MatchOptions) (ts vs : List Token) → list_all is_inner ts ≡ true → Falls (fits (with_separator_rule o)
    (ts ++ Literal slash ∷ vs))
fall o [] vs h = Falls-slash o vs
fall o (Literal x ∷ ts) vs h = Falls-one o (Literal x) (fits (with_separator_rule o) (ts ++ Literal slash ∷ vs))
    (fall o ts vs (and_parts (is_inner (Literal x)) (list_all is_inner ts) h).1)
fall o (AnyChar ∷ ts) vs h = Falls-one o AnyChar (fits (with_separator_rule o) (ts ++ Literal slash ∷ vs)) (fall o ts vs h)
fall o (AnySequence ∷ ts) vs h = Falls-many o AnySequence (fits (with_separator_rule o) (ts ++ Literal slash ∷ vs)) (fall o ts vs h)
fall o (Recursive ∷ ts) vs h = absurd (false≢true h)
fall o (OneOf entries ∷ ts) vs h = Falls-one o (OneOf entries) (fits (with_separator_rule o) (ts ++ Literal slash ∷ vs)) (fall o ts vs h)
fall o (NoneOf entries ∷ ts) vs h = Falls-one o (NoneOf entries) (fits (with_separator_rule o) (ts ++ Literal slash ∷ vs)) (fall o ts vs h)

-- the tokens of a component take no text with a separator
abbrev Stops : Text → After → Type 0
Stops r after = (b : Bool) (n : Text) → after b (n ++ slash ∷ r) ≡ false

Stops-one : (o : MatchOptions) (t : Token) → Shuns o t → (r : Text) (after : After) → Stops r after → Stops r
    (one_then (with_separator_rule o) t after)
Stops-one o t s r after stop b [] = ap (λ x. x && after true r) (s b)
Stops-one o t s r after stop b (c ∷ n) = ap (λ x. takes (with_separator_rule o) b c t && x) (stop (c == slash) n)
    ∙ and-false (takes (with_separator_rule o) b c t)

Stops-many : (o : MatchOptions) (t : Token) → Shuns o t → (r : Text) (after : After) → Stops r after → Stops r
    (many_then (with_separator_rule o) t after)
Stops-many o t s r after stop b [] = ap₂ (λ x y. x || (y && many_then (with_separator_rule o) t after true r)) (stop b []) (s b)
Stops-many o t s r after stop b (c ∷ n) =
    ap₂ (λ x y. x || (takes (with_separator_rule o) b c t && y)) (stop b (c ∷ n)) (Stops-many o t s r after stop
    (c == slash) n) ∙ and-false (takes (with_separator_rule o) b c t)

pub stop : (o : MatchOptions) (ts : List Token) → list_all is_inner ts ≡ true → (r : Text) → Stops r (fits (with_separator_rule o) ts)
stop o [] h r = Stops-nothing
  where
    Stops-nothing : Stops r (fits (with_separator_rule o) [])
    Stops-nothing b [] = refl
    Stops-nothing b (c ∷ n) = refl
stop o (Literal x ∷ ts) h r = let both = and_parts (is_inner (Literal x)) (list_all is_inner ts) h in
    Stops-one o (Literal x) (shuns o (Literal x) both.0) r (fits (with_separator_rule o) ts) (stop o ts both.1 r)
stop o (AnyChar ∷ ts) h r = Stops-one o AnyChar (shuns o AnyChar refl) r (fits (with_separator_rule o) ts) (stop o ts h r)
stop o (AnySequence ∷ ts) h r = Stops-many o AnySequence (shuns o AnySequence refl) r (fits (with_separator_rule o) ts) (stop o ts h r)
stop o (Recursive ∷ ts) h r = absurd (false≢true h)
stop o (OneOf entries ∷ ts) h r = Stops-one o (OneOf entries) (shuns o (OneOf entries) refl) r
    (fits (with_separator_rule o) ts) (stop o ts h r)
stop o (NoneOf entries ∷ ts) h r = Stops-one o (NoneOf entries) (shuns o (NoneOf entries) refl) r
    (fits (with_separator_rule o) ts) (stop o ts h r)
