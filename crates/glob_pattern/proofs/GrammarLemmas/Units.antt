-- The computation finds at each place the unit that the grammar has there.
use Rattle.std.proofs.Common.{◌≡◌, ◌≢◌, ℕ, ◌+◌, ◌-◌, ◌<◌, ◌≤◌, Bool, true, false, not, ◌||◌, cond, eqb, List, length}
use Rattle.std.proofs.Common.{get_or, Option, Some, None, refl, ap, sym, ◌∙◌, subst, inl, inr, arith}
use Rattle.std.specs.Option.{option_map}
use Rattle.std.proofs.lemmas.Grind.{get_or_default_zero}
use Rattle.std.proofs.lemmas.Bool.{cond_both, cases_lt, eqb-true, eqb-false, eq-eqb, ne_eqb, or_from, or_parts}
use Rattle.std.proofs.lemmas.Bool.{not-true, not-false, not_from_true, not_from_false, false_from_ne_true, both_ways}
use Rattle.glob_text.specs.Characters.{slash}
use Rattle.glob_pattern.specs.Grammar.Characters.{star, question_mark, open_bracket, close_bracket, exclamation_mark}
use Rattle.glob_text.specs.Text.{Text, Has, opens, between}
use Rattle.glob_pattern.specs.Grammar.Brackets.{entries_of}
use Rattle.glob_pattern.specs.Grammar.Tokens.{Token}
use Rattle.glob_pattern.specs.Grammar.Units.{StarsAt, ClosesBefore, NoCloseBetween, UnitAt}
use Rattle.glob_text.specs.Text.{has}
use Rattle.glob_pattern.specs.Grammar.Faults.{NoUnitAt}
use Rattle.glob_pattern.specs.Computing.Reading.{stars_at, close_from, bracket_from, bracket_at, unit_at}
use Rattle.glob_pattern.specs.declared.token.bracket.Entry.{Entry}
use Rattle.glob_pattern.specs.declared.token.Token.TheVariants.{Literal, AnyChar, AnySequence, Recursive, OneOf, NoneOf}
use Rattle.glob_pattern.proofs.GrammarLemmas.Closing.{Decides-has, IsFirstClose, IsFirstClose-close_from, close_from-ClosesBefore}

-- no star is right before a star at place f
abbrev pub IsClear : Text → ℕ → Type 0
IsClear text f = Has text f star → 0 < f → ¬ (Has text (f - 1) star)

-- equal places have the same character
Has-at : (text : Text) (k j c : ℕ) → k ≡ j → Has text k c → Has text j c
Has-at text k j c e at = subst (λ i. Has text i c) e at

-- the character that is read at a place
pub Has-read : (text : Text) (k c : ℕ) → k < length text → c ≡ get_or text k c → Has text k c
Has-read text k c within read = (within, sym (read ∙ get_or_default_zero text k c within))

-- one place has one character
Has-same : (text : Text) (k c d : ℕ) → Has text k c → Has text k d → c ≡ d
Has-same text k c d first second = sym first.1 ∙ second.1

-- A unit has a character, and ends within the text.
pub UnitAt-within : (text : Text) (f : ℕ) (t : Token) (e : ℕ) → UnitAt text f t e → (f < e) × (e ≤ length text)
UnitAt-within text f (Literal c) e unit = (omega arith, omega arith)
UnitAt-within text f AnyChar e unit = (omega arith, omega arith)
UnitAt-within text f AnySequence e unit = let at = unit.0.0 f (omega arith) (omega arith) in (omega arith, omega arith)
UnitAt-within text f Recursive e unit =
    let at = unit.0.0 (f + 1) (omega arith) (omega arith) in
    elim unit.2 [ inl last ↦ (omega arith, omega arith) | inr slashed ↦ (omega arith, omega arith) ]
UnitAt-within text f (OneOf entries) e unit = (omega arith, omega arith)
UnitAt-within text f (NoneOf entries) e unit = (omega arith, omega arith)

-- After a unit no star is right before a star.
pub IsClear-after : (text : Text) (f : ℕ) (t : Token) (e : ℕ) → UnitAt text f t e → IsClear text e
IsClear-after text f (Literal c) e unit at positive before =
    unit.2 (Has-same text f c star unit.0 (Has-at text (e - 1) f star (omega arith) before))
IsClear-after text f AnyChar e unit at positive before =
    let same = Has-same text f question_mark star unit.0 (Has-at text (e - 1) f star (omega arith) before) in absurd (omega arith)
IsClear-after text f AnySequence e unit at positive before = unit.0.1 (Has-at text e (f + 1) star unit.1 at)
IsClear-after text f Recursive e unit at positive before =
    elim unit.2 [
      | inl last ↦ omega arith
      | inr slashed ↦
          let same = Has-same text (f + 2) slash star slashed.1 (Has-at text (e - 1) (f + 2) star (omega arith) before)
          in absurd (omega arith)
    ]
IsClear-after text f (OneOf entries) e unit at positive before =
    let same = Has-same text (e - 1) close_bracket star unit.2.1 before in absurd (omega arith)
IsClear-after text f (NoneOf entries) e unit at positive before =
    let same = Has-same text (e - 1) close_bracket star unit.2.1 before in absurd (omega arith)

-- the unit that was found, if any, is at place f
abbrev pub Stands : Text → ℕ → Option (Token × ℕ) → Type 0
Stands text f None = Unit {0}
Stands text f (Some (t, e)) = UnitAt text f t e

has-true : (text : Text) (k c : ℕ) → Has text k c → has text k c ≡ true
has-true text k c = (Decides-has text k c).1

has-false : (text : Text) (k c : ℕ) → ¬ (Has text k c) → has text k c ≡ false
has-false text k c absent = false_from_ne_true _ (λ e. absent ((Decides-has text k c).0 e))

Has-from_true : (text : Text) (k c : ℕ) → has text k c ≡ true → Has text k c
Has-from_true text k c = (Decides-has text k c).0

absent_from_false : (text : Text) (k c : ℕ) → has text k c ≡ false → ¬ (Has text k c)
absent_from_false text k c e at = both_ways _ e (has-true text k c at)

StarsAt-one : (text : Text) (f : ℕ) → Has text f star → IsClear text f → ¬ (Has text (f + 1) star) → StarsAt text f 1
StarsAt-one text f at clear after = (λ k above below. Has-at text f k star (omega arith) at, after, clear at)

StarsAt-two : (text : Text) (f : ℕ) → Has text f star → IsClear text f → Has text (f + 1) star → ¬
    (Has text (f + 2) star) → StarsAt text f 2
StarsAt-two text f at clear next after = (
  λ k above below. elim (cases_lt f k) [
    | inl past ↦ Has-at text (f + 1) k star (omega arith) next
    | inr not_past ↦ Has-at text f k star (omega arith) at
  ],
  after,
  clear at,
)

Stands-stars_at : (text : Text) (f : ℕ) → Has text f star → IsClear text f → Stands text f (stars_at text f)
Stands-stars_at text f at clear =
    cond_both (not (has text (f + 1) star)) _ _ (Stands text f)
    (λ e. (StarsAt-one text f at clear (absent_from_false text (f + 1) star (not-true _ e)), refl))
    (λ next. cond_both (has text (f + 2) star || not (opens text f)) _ _ (Stands text f)
    (λ e. tt)
    (λ two.
    let parts = or_parts (has text (f + 2) star) (not (opens text f)) two in
    let stars = StarsAt-two text f at clear (Has-from_true text (f + 1) star (not-false _ next))
    (absent_from_false text (f + 2) star parts.0) in
    let opening = not-false _ parts.1 in
    cond_both (has text (f + 2) slash) _ _ (Stands text f)
    (λ e. (stars, opening, inr (refl, Has-from_true text (f + 2) slash e)))
    (λ _. cond_both (eqb (f + 2) (length text)) _ _ (Stands text f)
    (λ e. (stars, opening, inl (refl, eqb-true _ _ e)))
    (λ _. tt))))

-- the first `]` closes
ClosesBefore-first : (text : Text) (i k : ℕ) → IsFirstClose text i (Some k) → ClosesBefore text i (k + 1)
ClosesBefore-first text i k first =
    let e : k ≡ k + 1 - 1 = omega arith in
    (omega (arith, first.0), Has-at text k (k + 1 - 1) close_bracket e first.1, subst (NoCloseBetween text i) e first.2)

Stands-Within : (text : Text) (f : ℕ) (found : Option ℕ) → Has text f open_bracket → ¬
    (Has text (f + 1) exclamation_mark) → IsFirstClose text (f + 2) found → Stands text f
    (option_map (λ k. (OneOf (entries_of (between text (f + 1) k)), k + 1)) found)
Stands-Within text f None at mark first = tt
Stands-Within text f (Some k) at mark first =
    let e : k ≡ k + 1 - 1 = omega arith in
    (at, mark, ClosesBefore-first text (f + 2) k first, ap (λ j. entries_of (between text (f + 1) j)) e)

Stands-Except : (text : Text) (f : ℕ) (found : Option ℕ) → Has text f open_bracket → Has text (f + 1) exclamation_mark
    → IsFirstClose text (f + 3) found → Stands text f (option_map (λ k. (
      NoneOf (entries_of (between text (f + 2) k)),
      k + 1,
    )) found)
Stands-Except text f None at mark first = tt
Stands-Except text f (Some k) at mark first =
    let e : k ≡ k + 1 - 1 = omega arith in
    (at, mark, ClosesBefore-first text (f + 3) k first, ap (λ j. entries_of (between text (f + 2) j)) e)

Stands-bracket_at : (text : Text) (f : ℕ) → Has text f open_bracket → Stands text f (bracket_at text f)
Stands-bracket_at text f at =
    cond_both (has text (f + 1) exclamation_mark) _ _ (Stands text f)
    (λ e. let i : f + 3 ≡ f + 2 + 1 = omega arith in
    Stands-Except text f (close_from text (f + 2 + 1)) at (Has-from_true text (f + 1) exclamation_mark e)
    (subst (λ j. IsFirstClose text j (close_from text (f + 2 + 1))) (sym i) (IsFirstClose-close_from text (f + 2 + 1))))
    (λ e. let i : f + 2 ≡ f + 1 + 1 = omega arith in
    Stands-Within text f (close_from text (f + 1 + 1)) at (absent_from_false text (f + 1) exclamation_mark e)
    (subst (λ j. IsFirstClose text j (close_from text (f + 1 + 1))) (sym i) (IsFirstClose-close_from text (f + 1 + 1))))

-- The unit that the computation finds is there.
pub Stands-unit_at : (text : Text) (f : ℕ) → f < length text → IsClear text f → Stands text f (unit_at text f)
Stands-unit_at text f within clear =
    cond_both (eqb (get_or text f 0) question_mark) _ _ (Stands text f)
    (λ e. ((within, eqb-true _ _ e), refl))
    (λ question. cond_both (eqb (get_or text f 0) star) _ _ (Stands text f)
    (λ e. Stands-stars_at text f (within, eqb-true _ _ e) clear)
    (λ stars. cond_both (eqb (get_or text f 0) open_bracket) _ _ (Stands text f)
    (λ e. Stands-bracket_at text f (within, eqb-true _ _ e))
    (λ bracket. ((within, refl), eqb-false _ _ question, eqb-false _ _ stars, eqb-false _ _ bracket, refl))))

-- a test that fails, or that passes, before what it chooses
skip : {A : Type 0} (b : Bool) (x y z : A) → b ≡ false → y ≡ z → cond b x y ≡ z
skip b x y z e same = rw e same

pick : {A : Type 0} (b : Bool) (x y z : A) → b ≡ true → x ≡ z → cond b x y ≡ z
pick b x y z e same = rw e same

-- the character at the place is another
is_not : (text : Text) (f c d : ℕ) → Has text f c → c ≢ d → eqb (get_or text f 0) d ≡ false
is_not text f c d at other = ne_eqb (get_or text f 0) d (λ e. other (sym at.1 ∙ e))

stars_at-Deep : (text : Text) (f e : ℕ) → UnitAt text f Recursive e → stars_at text f ≡ Some (Recursive, e)
stars_at-Deep text f e unit =
    skip _ _ _ _ (not_from_true _ (has-true text (f + 1) star (unit.0.0 (f + 1) (omega arith) (omega arith))))
    (skip _ _ _ _ (or_from _ _ (has-false text (f + 2) star unit.0.1) (not_from_true _ unit.1))
    (elim unit.2 [
      | inl last ↦
          skip _ _ _ _ (has-false text (f + 2) slash (λ at. omega arith))
          (pick _ _ _ _ (eq-eqb (f + 2) (length text) (omega arith)) (ap (λ n. Some (Recursive, n)) (sym last.0)))
      | inr slashed ↦ pick _ _ _ _ (has-true text (f + 2) slash slashed.1) (ap (λ n. Some (Recursive, n)) (sym slashed.0))
    ]))

-- a bracket that closes is found
bracket_from-ClosesBefore : (kind : List Entry → Token) (text : Text) (i j e : ℕ) → j ≡ i + 1 → ClosesBefore text j e
    → bracket_from kind text i ≡ Some (kind (entries_of (between text i (e - 1))), e)
bracket_from-ClosesBefore kind text i j e next closes =
    let end : e - 1 + 1 ≡ e = omega (arith, closes.0) in
    let found : close_from text (i + 1) ≡ Some (e - 1) = subst (λ n. close_from text n ≡ Some (e - 1)) next
    (close_from-ClosesBefore text j e closes) in
    ap (option_map (λ k. (kind (entries_of (between text i k)), k + 1))) found ∙ ap
    (λ n. Some (kind (entries_of (between text i (e - 1))), n)) end

-- A unit at a place is found there.
pub unit_at-UnitAt : (text : Text) (f : ℕ) (t : Token) (e : ℕ) → UnitAt text f t e → unit_at text f ≡ Some (t, e)
unit_at-UnitAt text f (Literal c) e unit =
    skip _ _ _ _ (is_not text f c question_mark unit.0 unit.1)
    (skip _ _ _ _ (is_not text f c star unit.0 unit.2)
    (skip _ _ _ _ (is_not text f c open_bracket unit.0 unit.3) (ap (λ x. Some (Literal x, f + 1)) unit.0.1 ∙ ap
    (λ n. Some (Literal c, n)) (sym unit.4))))
unit_at-UnitAt text f AnyChar e unit =
    pick _ _ _ _ (eq-eqb _ _ unit.0.1) (ap (λ n. Some (AnyChar, n)) (sym unit.1))
unit_at-UnitAt text f AnySequence e unit =
    let at = unit.0.0 f (omega arith) (omega arith) in
    skip _ _ _ _ (is_not text f star question_mark at (omega arith))
    (pick _ _ _ _ (eq-eqb _ _ at.1)
    (pick _ _ _ _ (not_from_false _ (has-false text (f + 1) star unit.0.1)) (ap (λ n. Some (AnySequence, n)) (sym unit.1))))
unit_at-UnitAt text f Recursive e unit =
    let at = unit.0.0 f (omega arith) (omega arith) in
    skip _ _ _ _ (is_not text f star question_mark at (omega arith)) (pick _ _ _ _ (eq-eqb _ _ at.1) (stars_at-Deep text f e unit))
unit_at-UnitAt text f (OneOf entries) e unit =
    skip _ _ _ _ (is_not text f open_bracket question_mark unit.0 (omega arith))
    (skip _ _ _ _ (is_not text f open_bracket star unit.0 (omega arith))
    (pick _ _ _ _ (eq-eqb _ _ unit.0.1)
    (skip _ _ _ _ (has-false text (f + 1) exclamation_mark unit.1)
    (bracket_from-ClosesBefore OneOf text (f + 1) (f + 2) e (omega arith) unit.2 ∙ ap (λ x. Some (OneOf x, e)) (sym unit.3)))))
unit_at-UnitAt text f (NoneOf entries) e unit =
    skip _ _ _ _ (is_not text f open_bracket question_mark unit.0 (omega arith))
    (skip _ _ _ _ (is_not text f open_bracket star unit.0 (omega arith))
    (pick _ _ _ _ (eq-eqb _ _ unit.0.1)
    (pick _ _ _ _ (has-true text (f + 1) exclamation_mark unit.1)
    (bracket_from-ClosesBefore NoneOf text (f + 2) (f + 3) e (omega arith) unit.2 ∙ ap (λ x. Some (NoneOf x, e)) (sym unit.3)))))

-- If no unit is found, there is no unit.
pub NoUnitAt-None : (text : Text) (f : ℕ) → unit_at text f ≡ None → NoUnitAt text f
NoUnitAt-None text f none = λ t e unit. let found = unit_at-UnitAt text f t e unit in cc

-- A unit that is found is there.
pub UnitAt-Some : (text : Text) (f : ℕ) (t : Token) (e : ℕ) → f < length text → IsClear text f → unit_at text f ≡ Some
    (t, e) → UnitAt text f t e
UnitAt-Some text f t e within clear found = subst (Stands text f) found (Stands-unit_at text f within clear)
