-- The tokens of a whole pattern match joined names exactly when its components take the names.
use Rattle.std.proofs.Common.{◌≡◌, Bool, true, false, ◌&&◌, ◌||◌, List, [], ◌∷◌, ◌++◌, refl, sym, ap, ap₂, subst, ◌∙◌}
use mathlib.Core.Bool.{and-true, and-false}
use Rattle.std.specs.List.{list_all, join_with_byte}
use Rattle.std.specs.Path.{has_no_slash}
use Rattle.std.proofs.lemmas.Bool.{false≢true, and_parts}
use Rattle.glob_text.specs.Characters.{slash}
use Rattle.glob_text.specs.Text.{Text}
use Rattle.glob_pattern.specs.Grammar.Tokens.{Token}
use Rattle.glob_pattern.specs.declared.options.MatchOptions.{MatchOptions}
use Rattle.glob_pattern.specs.declared.token.Token.TheVariants.{Literal, Recursive}
use Rattle.glob_walk.proofs.ComponentLemmas.Fits.{closed_then, fits}
use Rattle.glob_pattern.specs.Matching.Components.{with_separator_rule, is_open}
use Rattle.glob_walk.proofs.ComponentLemmas.Parts.{is_inner, Part, Levels, Level, is_level, joined_tokens, reaches}
use Rattle.glob_walk.proofs.ComponentLemmas.FirstSeparator.{cut, fall, stop}
use Rattle.glob_walk.proofs.ComponentLemmas.WholeNames.{closed-cut, closed-fall, last-name, last-cut}

-- components have at least one token
tokens_some : (p : Part) (ps : List Part) → is_level p ≡ true → (t : Token) × (ts : List Token) × (joined_tokens (p ∷ ps) ≡ t ∷ ts)
tokens_some Levels ps h = (Recursive, joined_tokens ps, refl)
tokens_some (Level []) ps h = absurd (false≢true h)
tokens_some (Level (t ∷ ts)) [] h = (t, ts, refl)
tokens_some (Level (t ∷ ts)) (p ∷ ps) h = (t, ts ++ Literal slash ∷ joined_tokens (p ∷ ps), refl)

fits-deep : (o : MatchOptions) (us : List Token) (t : Token) (ts : List Token) → us ≡ t ∷ ts → (b : Bool) (cs : Text)
    → fits o (Recursive ∷ us) b cs ≡ (fits o us b cs || closed_then o Recursive (fits o us) b cs)
fits-deep o us t ts e b cs = subst (λ vs. fits o (Recursive ∷ vs) b cs ≡ (fits o vs b cs || closed_then o Recursive
    (fits o vs) b cs)) (sym e) refl

-- what the tokens of components match, for at least one name
abbrev Reach : MatchOptions → List Part → Type 0
Reach o ps = (n : Text) (ns : List Text) → list_all has_no_slash (n ∷ ns) ≡ true → fits (with_separator_rule o)
    (joined_tokens ps) true (join_with_byte slash (n ∷ ns)) ≡ reaches o ps (n ∷ ns)

Reach-end : (o : MatchOptions) → Reach o (Levels ∷ [])
Reach-end o n [] h = last-name o true n (and_parts (has_no_slash n) true h).0
Reach-end o n (m ∷ ns) h =
    let both = and_parts (has_no_slash n) (list_all has_no_slash (m ∷ ns)) h in
    last-cut o true n (join_with_byte slash (m ∷ ns)) both.0 ∙ ap₂ (λ x y. x && y) refl (Reach-end o m ns both.1)

Reach-run : (o : MatchOptions) (p : Part) (ps : List Part) → is_level p ≡ true → Reach o (p ∷ ps) → Reach o (Levels ∷ p ∷ ps)
Reach-run o p ps is next n [] h =
    let some = tokens_some p ps is in
    let plain = (and_parts (has_no_slash n) true h).0 in
    fits-deep (with_separator_rule o) (joined_tokens (p ∷ ps)) some.0 some.1 some.2 true n
    ∙ ap₂ (λ x y. x || y) (next n [] h) (closed-fall o (fits (with_separator_rule o) (joined_tokens (p ∷ ps))) true n
    plain ∙ sym (and-false (is_open o n)))
Reach-run o p ps is next n (m ∷ ns) h =
    let some = tokens_some p ps is in
    let both = and_parts (has_no_slash n) (list_all has_no_slash (m ∷ ns)) h in
    let r : Text = join_with_byte slash (m ∷ ns) in
    fits-deep (with_separator_rule o) (joined_tokens (p ∷ ps)) some.0 some.1 some.2 true (n ++ slash ∷ r)
    ∙ ap₂ (λ x y. x || y) (next n (m ∷ ns) h)
    (closed-cut o (fits (with_separator_rule o) (joined_tokens (p ∷ ps))) true n r both.0
    ∙ ap₂ (λ x y. x && y) refl (sym (fits-deep (with_separator_rule o) (joined_tokens (p ∷ ps)) some.0 some.1 some.2
    true r) ∙ Reach-run o p ps is next m ns both.1))

Reach-level : (o : MatchOptions) (ts : List Token) (p : Part) (ps : List Part) → list_all is_inner ts ≡ true → Reach o
    (p ∷ ps) → Reach o (Level ts ∷ p ∷ ps)
Reach-level o ts p ps inner next n [] h =
    fall o ts (joined_tokens (p ∷ ps)) inner true n (and_parts (has_no_slash n) true h).0 ∙ sym
    (and-false (fits (with_separator_rule o) ts true n)) ∙ ap (λ x. fits (with_separator_rule o) ts true n && x)
    (sym (none p ps))
  where
    none : (p : Part) (ps : List Part) → reaches o (p ∷ ps) [] ≡ false
    none Levels [] = refl
    none Levels (q ∷ qs) = refl
    none (Level us) qs = refl
Reach-level o ts p ps inner next n (m ∷ ns) h =
    let both = and_parts (has_no_slash n) (list_all has_no_slash (m ∷ ns)) h in
    cut o ts (joined_tokens (p ∷ ps)) inner (join_with_byte slash (m ∷ ns)) true n both.0
    ∙ ap (λ x. fits (with_separator_rule o) ts true n && x) (next m ns both.1)

Reach-last : (o : MatchOptions) (ts : List Token) → list_all is_inner ts ≡ true → Reach o (Level ts ∷ [])
Reach-last o ts inner n [] h = sym (and-true (fits (with_separator_rule o) ts true n))
Reach-last o ts inner n (m ∷ ns) h = stop o ts inner (join_with_byte slash (m ∷ ns)) true n ∙ sym
    (and-false (fits (with_separator_rule o) ts true n))

inner-from_level : (ts : List Token) → is_level (Level ts) ≡ true → list_all is_inner ts ≡ true
inner-from_level [] h = refl
inner-from_level (t ∷ ts) h = h

-- The tokens of a pattern match a text of names exactly when its components take the names.
pub level_by_level : (o : MatchOptions) (p : Part) (ps : List Part) → list_all is_level (p ∷ ps) ≡ true → Reach o (p ∷ ps)
level_by_level o Levels [] h = Reach-end o
level_by_level o Levels (p ∷ ps) h = let both = and_parts (is_level p) (list_all is_level ps) h in Reach-run o p ps
    both.0 (level_by_level o p ps h)
level_by_level o (Level ts) [] h = Reach-last o ts (inner-from_level ts (and_parts (is_level (Level ts)) true h).0)
level_by_level o (Level ts) (p ∷ ps) h =
    let both = and_parts (is_level (Level ts)) (list_all is_level (p ∷ ps)) h in
    Reach-level o ts p ps (inner-from_level ts both.0) (level_by_level o p ps both.1)
