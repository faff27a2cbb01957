-- The place of the first `]`, and tests of the character at a place.
use Rattle.std.proofs.Common.{◌≡◌, ℕ, ◌+◌, ◌-◌, ◌<◌, ◌≤◌, eqb, List, [], ◌∷◌, length, drop, get_or, Option, Some, None}
use Rattle.std.proofs.Common.{Decides, refl, ap, sym, ◌∙◌, subst, inl, inr, arith}
use Rattle.std.specs.Prelude.{◌==◌}
use Rattle.std.specs.List.{position_from}
use Rattle.std.proofs.lemmas.Bool.{cond_both, cases_lt, eqb-true, eqb-false}
use Rattle.std.proofs.lemmas.Bool.Decides.{Decides-and, Decides-ltb, Decides-eqb}
use Rattle.std.proofs.lemmas.List.{drop_more, length-drop}
use Rattle.glob_pattern.specs.Grammar.Characters.{close_bracket}
use Rattle.glob_text.specs.Text.{Text, Has}
use Rattle.glob_pattern.specs.Grammar.Units.{NoCloseBetween, ClosesBefore}
use Rattle.glob_text.specs.Text.{has}
use Rattle.glob_pattern.specs.Computing.Reading.{close_from}

-- The test says whether the character is there.
pub Decides-has : (text : Text) (k c : ℕ) → Decides (has text k c) (Has text k c)
Decides-has text k c = Decides-and _ _ (Decides-ltb k (length text)) (Decides-eqb (get_or text k 0) c)

-- the first `]` from place i on is at this place, or there is none
abbrev pub IsFirstClose : Text → ℕ → Option ℕ → Type 0
IsFirstClose text i None = (k : ℕ) → i ≤ k → ¬ (Has text k close_bracket)
IsFirstClose text i (Some k) = (i ≤ k) × Has text k close_bracket × NoCloseBetween text i k

-- what is false at place i and at each later place is false at each place from i on
none_from : (P : ℕ → Type 0) (i : ℕ) → ¬ (P i) → ((k : ℕ) → i + 1 ≤ k → ¬ (P k)) → (k : ℕ) → i ≤ k → ¬ (P k)
none_from P i here later k above at =
    elim (cases_lt i k) [
      | inl below ↦ later k (omega arith) at
      | inr not_above ↦ let e : k ≡ i = omega arith in here (subst P e at)
    ]

-- A place without `]` may be skipped.
IsFirstClose-before : (text : Text) (i : ℕ) (found : Option ℕ) → ¬ (Has text i close_bracket) → IsFirstClose text
    (i + 1) found → IsFirstClose text i found
IsFirstClose-before text i None here later = none_from (λ k. Has text k close_bracket) i here later
IsFirstClose-before text i (Some place) here later = (
  omega (arith, later.0),
  later.1,
  λ k above below at. none_from (λ j. (j < place) × Has text j close_bracket) i
      (λ p. here p.1) (λ j higher p. later.2 j higher p.0 p.1) k above (below, at),
)

-- the list that is left begins with the character at its place
Has-drop : (text : Text) (i c : ℕ) (rest : List ℕ) → drop i text ≡ c ∷ rest → Has text i c × (drop (i + 1) text ≡ rest)
Has-drop text i c rest is_rest =
    let within : i < length text = omega (arith, length-drop i text, ap length is_rest) in
    let e = drop_more text i 0 within in
    let here : get_or text i 0 ≡ c = cc in
    let after : drop (i + 1) text ≡ rest = cc in
    ((within, here), after)

-- the search over what is left from place i on
IsFirstClose-position_from : (text : Text) (i : ℕ) (rest : List ℕ) → drop i text ≡ rest → IsFirstClose text i
    (position_from (λ c. c == close_bracket) i rest)
IsFirstClose-position_from text i [] is_rest = λ k above at. absurd (omega (arith, at.0, length-drop i text, ap length is_rest))
IsFirstClose-position_from text i (c ∷ rest) is_rest =
    let at = Has-drop text i c rest is_rest in
    cond_both (eqb c close_bracket) (Some i) (position_from (λ c. c == close_bracket) (i + 1) rest) (IsFirstClose text i)
    (λ e. (omega arith, (at.0.0, at.0.1 ∙ eqb-true c close_bracket e), λ k above below. absurd (omega arith)))
    (λ e. IsFirstClose-before text i _ (λ here. eqb-false c close_bracket e (sym at.0.1 ∙ here.1))
    (IsFirstClose-position_from text (i + 1) rest at.1))

-- The search finds the first `]`.
pub IsFirstClose-close_from : (text : Text) (i : ℕ) → IsFirstClose text i (close_from text i)
IsFirstClose-close_from text i = IsFirstClose-position_from text i (drop i text) refl

-- There is only one first `]`.
IsFirstClose-same : (text : Text) (i k : ℕ) (found : Option ℕ) → IsFirstClose text i found → IsFirstClose text i (Some k) → found ≡ Some k
IsFirstClose-same text i k None none first = absurd (none k first.0 first.1)
IsFirstClose-same text i k (Some j) found first =
    elim (cases_lt j k) [
      | inl before ↦ absurd (first.2 j found.0 before found.1)
      | inr not_before ↦
          elim (cases_lt k j) [
            | inl after ↦ absurd (found.2 k first.0 after first.1)
            | inr not_after ↦ let e : j ≡ k = omega arith in ap Some e
          ]
    ]

-- The search finds the place before the end of a bracket.
pub close_from-ClosesBefore : (text : Text) (i e : ℕ) → ClosesBefore text i e → close_from text i ≡ Some (e - 1)
close_from-ClosesBefore text i e closes =
    IsFirstClose-same text i (e - 1) (close_from text i) (IsFirstClose-close_from text i) (omega (arith, closes.0), closes.1, closes.2)
