-- Sets of all alternatives of several texts: what they match, and when texts are refused.
use Rattle.std.proofs.Common.{◌≡◌, ℕ, zero, suc, ◌+◌, ◌-◌, ◌<◌, ◌↔◌, List, [], ◌∷◌, ◌++◌, length, get_or, map, take}
use Rattle.std.proofs.Common.{refl, sym, ap, subst, ◌∙◌, arith, append_assoc, length-append, below_more, Result, Ok}
use Rattle.std.proofs.Common.{Err, IfErr, IsErrAnd, inl, inr}
use Rattle.std.proofs.lemmas.Bool.{cases_lt}
use Rattle.std.proofs.lemmas.List.{append-nil, get_or_append_left, get_or-append_right, get_or-append-add, map_more, length-map, get_or-map}
use Rattle.std.specs.Str.{chars}
use Rattle.glob_text.specs.Text.{Text}
use Rattle.glob_pattern.specs.Matching.Texts.{Matches}
use Rattle.glob_pattern.specs.declared.options.MatchOptions.{MatchOptions}
use Rattle.glob_set.specs.Braces.{lexemes, AreAlternatives, IsAlternative, RefusesBraces}
use Rattle.glob_set.specs.BraceSets.{AreAccepted, AreAlternativesOf, AnyAlternativeMatches, HasPatterns, RefusesText}
use Rattle.glob_set.specs.BraceSets.{RefusesBraceTexts, of_alternatives, of_braces}
use Rattle.glob_set.specs.Sets.{MatchesAt, AnyMatch, RefusesTexts}
use Rattle.glob_set.specs.declared.error.BraceSetRefusal.{BraceSetRefusal}
use Rattle.glob_set.specs.declared.error.BraceSetRefusal.TheVariants.{Braces, Pattern, Memory}
use Rattle.glob_set.specs.declared.braces.error.BraceRefusal.{BraceRefusal}
use Rattle.glob_set.specs.declared.braces.error.BraceRefusal.TheVariants as braces
use Rattle.glob_set.specs.declared.error.SetRefusal.{SetRefusal}
use Rattle.glob_set.specs.declared.error.SetRefusal.TheVariants as set
use Rattle.glob_set.proofs.BraceReadings.{alternatives_unique}

-- one more text
pub AreAlternativesOf-more : (texts found : List Text) (text : Text) (alternatives : List Text) → AreAlternativesOf texts found
    → AreAlternatives (chars text) alternatives → AreAlternativesOf (texts ++ text ∷ []) (found ++ alternatives)
AreAlternativesOf-more [] found text alternatives is has =
    (alternatives, [], has, refl, ap (λ z. z ++ alternatives) is ∙ sym (append-nil alternatives))
AreAlternativesOf-more (t ∷ ts) found text alternatives a has = (
  a.0,
  a.1 ++ alternatives,
  a.2,
  AreAlternativesOf-more ts a.1 text alternatives a.3 has,
  ap (λ z. z ++ alternatives) a.4 ∙ append_assoc a.0 a.1 alternatives,
)

module _ (o : MatchOptions) (text : Text) where
  -- a pattern that matches is an alternative of one of the texts
  alternative_at : (texts patterns : List Text) (n : ℕ) → AreAlternativesOf texts patterns → n < length patterns
      → Matches o (chars (get_or patterns n [])) (chars text) → AnyAlternativeMatches o texts text
  unfolding AnyAlternativeMatches IsAlternative
  alternative_at [] patterns n is below matches =
      let none : n < length {A = Text} [] = subst (λ z. n < length z) is below in absurd (omega (arith, none))
  alternative_at (t ∷ ts) patterns n a below matches =
      elim (cases_lt n (length a.0)) [
        | inl lt ↦ (
          0,
          get_or patterns n [],
          omega arith,
          (a.0, a.2, (n, lt, sym (ap (λ z. get_or z n []) a.4 ∙ get_or_append_left a.0 a.1 [] n lt))),
          matches,
        )
        | inr ge ↦
            let long : length patterns ≡ length a.0 + length a.1 = ap length a.4 ∙ length-append a.0 a.1 in
            let same : get_or patterns n [] ≡ get_or a.1 (n - length a.0) [] =
            ap (λ z. get_or z n []) a.4 ∙ get_or-append_right a.0 a.1 (length a.0) n [] refl ge in
            let next = alternative_at ts a.1 (n - length a.0) a.3 (omega (arith, below, long, ge))
            (subst (λ p. Matches o (chars p) (chars text)) same matches) in
            (suc next.0, next.1, omega (arith, next.2), next.3, next.4)
      ]

  -- an alternative of one of the texts that matches is a pattern
  pattern_at : (texts patterns : List Text) (number : ℕ) (alternative : Text) → AreAlternativesOf texts patterns → number < length texts
      → IsAlternative (chars (get_or texts number [])) alternative → Matches o (chars alternative) (chars text) → AnyMatch o patterns text
  unfolding AnyMatch MatchesAt IsAlternative AreAlternatives
  pattern_at [] patterns number alternative is below alt matches = absurd (omega (arith, below))
  pattern_at (t ∷ ts) patterns zero alternative a below alt matches =
      let same : alt.0 ≡ a.0 = alternatives_unique (lexemes (chars t)) alt.0 a.0 alt.1 a.2 in
      let lt : alt.2.0 < length a.0 = subst (λ z. alt.2.0 < length z) same alt.2.1 in
      let long : length patterns ≡ length a.0 + length a.1 = ap length a.4 ∙ length-append a.0 a.1 in
      let is : get_or patterns alt.2.0 [] ≡ alternative =
      ap (λ z. get_or z alt.2.0 []) a.4 ∙ get_or_append_left a.0 a.1 [] alt.2.0 lt ∙ ap (λ z. get_or z alt.2.0 []) (sym same) ∙ alt.2.2 in
      (alt.2.0, (omega (arith, lt, long), subst (λ p. Matches o (chars p) (chars text)) (sym is) matches))
  pattern_at (t ∷ ts) patterns (suc number) alternative a below alt matches =
      let next = pattern_at ts a.1 number alternative a.3 (omega (arith, below)) alt matches in
      let long : length patterns ≡ length a.0 + length a.1 = ap length a.4 ∙ length-append a.0 a.1 in
      let same : get_or patterns (length a.0 + next.0) [] ≡ get_or a.1 next.0 [] =
      ap (λ z. get_or z (length a.0 + next.0) []) a.4 ∙ get_or-append-add a.0 a.1 next.0 [] in
      (length a.0 + next.0, (omega (arith, next.1.0, long), subst (λ p. Matches o (chars p) (chars text)) (sym same) next.1.1))

  -- the set matches what one of the alternatives matches
  pub AnyMatch-alternatives : (texts patterns : List Text) → AreAlternativesOf texts patterns
      → AnyMatch o patterns text ↔ AnyAlternativeMatches o texts text
  unfolding AnyMatch MatchesAt AnyAlternativeMatches
  AnyMatch-alternatives texts patterns are = (
    λ any. alternative_at texts patterns any.0 are any.1.0 any.1.1,
    λ any. pattern_at texts patterns any.0 any.1 are any.2 any.3 any.4,
  )

-- one more text has its patterns
pub HasPatterns-more : {X : Type 0} (f : X → Text) (xs : List X) (i : ℕ) (d : X) → i < length xs → HasPatterns (f (get_or xs i d))
    → ((k : ℕ) → k < i → HasPatterns (get_or (map f xs) k [])) → (k : ℕ) → k < i + 1 → HasPatterns (get_or (map f xs) k [])
HasPatterns-more f xs i d below has before =
    below_more (λ k. HasPatterns (get_or (map f xs) k [])) i before (subst HasPatterns (sym (get_or-map f xs i d [] below)) has)

-- one more text is read
pub AreAlternativesOf-take : {X : Type 0} (f : X → Text) (xs : List X) (i : ℕ) (d : X) (found new alternatives : List Text) → i < length xs
    → AreAlternativesOf (map f (take i xs)) found → AreAlternatives (chars (f (get_or xs i d))) alternatives
    → new ≡ found ++ alternatives → AreAlternativesOf (map f (take (i + 1) xs)) new
AreAlternativesOf-take f xs i d found new alternatives below are has is =
    subst (λ z. AreAlternativesOf (map f (take (i + 1) xs)) z) (sym is)
    (subst (λ z. AreAlternativesOf z (found ++ alternatives)) (sym (map_more f xs i d below))
    (AreAlternativesOf-more (map f (take i xs)) found (f (get_or xs i d)) alternatives are has))

-- the first text that is refused refuses all
pub RefusesBraceTexts-at : {X : Type 0} (f : X → Text) (xs : List X) (i : ℕ) (d : X) → i < length xs
    → ((k : ℕ) → k < i → HasPatterns (get_or (map f xs) k [])) → (refusal : BraceSetRefusal)
    → RefusesText (f (get_or xs i d)) i refusal → RefusesBraceTexts (map f xs) refusal
unfolding RefusesBraceTexts RefusesText
RefusesBraceTexts-at f xs i d below before (Braces n fault) refused =
    let within : i < length (map f xs) = subst (λ k. i < k) (sym (length-map xs f)) below in
    let here : RefusesText (get_or (map f xs) i []) i (Braces n fault) =
    subst (λ t. RefusesText t i (Braces n fault)) (sym (get_or-map f xs i d [] below)) refused in
    subst (λ k. (k < length (map f xs)) × ((b : ℕ) → b < k → HasPatterns (get_or (map f xs) b [])) × RefusesText
    (get_or (map f xs) k []) k (Braces n fault))
    (sym refused.0) (within, before, here)
RefusesBraceTexts-at f xs i d below before (Pattern n alternative e) refused =
    let within : i < length (map f xs) = subst (λ k. i < k) (sym (length-map xs f)) below in
    let here : RefusesText (get_or (map f xs) i []) i (Pattern n alternative e) =
    subst (λ t. RefusesText t i (Pattern n alternative e)) (sym (get_or-map f xs i d [] below)) refused in
    subst (λ k. (k < length (map f xs)) × ((b : ℕ) → b < k → HasPatterns (get_or (map f xs) b [])) × RefusesText
    (get_or (map f xs) k []) k (Pattern n alternative e))
    (sym refused.0) (within, before, here)
RefusesBraceTexts-at f xs i d below before Memory refused = tt

-- a failed allocation is a refusal of any texts
pub refuses_texts_memory : {T : Type 0} (r : Result T BraceSetRefusal) (texts : List Text) → IsErrAnd r (λ e. e ≡ Memory)
    → IfErr r (RefusesBraceTexts texts)
unfolding RefusesBraceTexts
refuses_texts_memory (Ok x) texts known = tt
refuses_texts_memory (Err (Braces n fault)) texts known = absurd (cc)
refuses_texts_memory (Err (Pattern n alternative e)) texts known = absurd (cc)
refuses_texts_memory (Err Memory) texts known = tt

-- a failed allocation is a refusal of any text
pub refuses_text_memory : {T : Type 0} (r : Result T BraceSetRefusal) (text : Text) (number : ℕ) → IsErrAnd r (λ e. e ≡ Memory)
    → IfErr r (RefusesText text number)
unfolding RefusesText
refuses_text_memory (Ok x) text number known = tt
refuses_text_memory (Err (Braces n fault)) text number known = absurd (cc)
refuses_text_memory (Err (Pattern n alternative e)) text number known = absurd (cc)
refuses_text_memory (Err Memory) text number known = tt

-- the braces of a text are refused
pub RefusesText-braces : (text : Text) (number : ℕ) (refusal : BraceRefusal) → RefusesBraces (chars text) refusal
    → RefusesText text number (of_braces number refusal)
unfolding RefusesText RefusesBraces
RefusesText-braces text number (braces.Syntax fault) refused = (refl, refused)
RefusesText-braces text number braces.Memory refused = tt

-- an alternative of a text is refused
pub RefusesText-alternative : (text : Text) (number : ℕ) (alternatives : List Text) (refusal : SetRefusal)
    → AreAlternatives (chars text) alternatives
    → RefusesTexts alternatives refusal → RefusesText text number (of_alternatives number refusal)
unfolding RefusesText
RefusesText-alternative text number alternatives (set.Syntax n e) are refused = (refl, (alternatives, are, refused))
RefusesText-alternative text number alternatives set.Memory are refused = tt

-- the alternatives of a text are accepted
pub HasPatterns-all : (text : Text) (alternatives : List Text) → AreAlternatives (chars text) alternatives
    → AreAccepted alternatives → HasPatterns text
unfolding HasPatterns
HasPatterns-all text alternatives are accepted = (alternatives, are, accepted)
