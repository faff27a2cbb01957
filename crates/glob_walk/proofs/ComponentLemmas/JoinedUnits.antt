-- The units of a pattern are the units of its components, with separators between them.
use Rattle.std.proofs.Common.{◌≡◌, ◌≢◌, ℕ, ◌+◌, ◌-◌, ◌<◌, ◌≤◌, ◌⊎◌, inl, inr, ⊎_elim, true, ◌==◌, List, [], ◌∷◌, ◌++◌}
use Rattle.std.proofs.Common.{length, take, drop, slice_index, refl, sym, ap, ap₂, subst, ◌∙◌, arith}
use Rattle.std.specs.List.{list_all, join_with_byte}
use Rattle.std.proofs.lemmas.Bool.{false≢true, and_parts, or_cases, or_right, eqb-true, eq-eqb, cases_lt}
use Rattle.std.proofs.lemmas.List.{append-nil, take-append-le, drop-append-le, drop-drop, length-drop}
use Rattle.glob_text.specs.Characters.{slash}
use Rattle.glob_pattern.specs.Grammar.Characters.{star, question_mark, open_bracket, close_bracket, exclamation_mark}
use Rattle.glob_text.specs.Text.{Text, Has, opens, between}
use Rattle.glob_pattern.specs.Grammar.Brackets.{entries_of}
use Rattle.glob_pattern.specs.Grammar.Tokens.{Token}
use Rattle.glob_pattern.specs.Grammar.Units.{ClosesBefore, UnitAt, UnitsBetween}
use Rattle.glob_pattern.specs.declared.token.Token.TheVariants.{Literal, AnyChar, AnySequence, Recursive, OneOf, NoneOf}
use Rattle.glob_pattern.proofs.Places.{get_or-at_drop, get_or-in_piece, length-after_piece, length-at_drop}
use Rattle.glob_pattern.proofs.Places.{length-at_end, drop-after_piece, drop-at_drop}
use Rattle.glob_pattern.proofs.GrammarLemmas.Units.{UnitAt-within}
use Rattle.glob_pattern.proofs.GrammarLemmas.WrittenUnits.{UnitAt-plain}
use Rattle.glob_walk.proofs.ComponentLemmas.Parts.{is_inner, Part, Levels, Level, joined_tokens, AreParts}

-- the component is in the whole text from place p on, between separators or ends of the text
record Stands (first_answer piece : Text) (p : ℕ) : Type 0 where
  rest : Text
  at : drop p first_answer ≡ piece ++ rest
  ends : (rest ≡ []) ⊎ ((r : Text) × (rest ≡ slash ∷ r))
  within : p ≤ length first_answer
  opening : opens first_answer p ≡ true

module _ (first_answer piece : Text) (p : ℕ) (s : Stands first_answer piece p) where
  end_within : p + length piece ≤ length first_answer
  end_within = length-after_piece first_answer piece s.rest p s.at s.within

  Has-in : (k c : ℕ) → Has piece k c → Has first_answer (p + k) c
  Has-in k c has = (omega (arith, end_within), get_or-in_piece first_answer piece s.rest p k 0 s.at has.0 ∙ has.1)

  Has-out : (k c : ℕ) → k < length piece → Has first_answer (p + k) c → Has piece k c
  Has-out k c l has = (l, sym (get_or-in_piece first_answer piece s.rest p k 0 s.at l) ∙ has.1)

  Has-after : (c : ℕ) → Has first_answer (p + length piece) c → c ≡ slash
  Has-after c has = ⊎_elim
      (λ none. absurd (omega (
        arith,
        has.0,
        length-at_end first_answer (p + length piece)
            (drop-after_piece first_answer piece s.rest p s.at ∙ none) end_within,
      )))
      (λ some. sym has.1 ∙ get_or-at_drop first_answer some.0 (p + length piece) slash 0 (drop-after_piece first_answer
      piece s.rest p s.at ∙ some.1))
      s.ends

  Has-before : (c : ℕ) → 0 < p → Has first_answer (p - 1) c → c ≡ slash
  Has-before c l has = ⊎_elim (λ z. absurd (omega (arith, eqb-true p 0 z))) (λ e. sym has.1 ∙ eqb-true _ _ e)
      (or_cases (p == 0) (slice_index first_answer (p - 1) == slash) s.opening)

  -- a character other than `/` follows place k of the piece in the whole text only if it does in the piece
  not_after : (k c : ℕ) → k ≤ length piece → c ≢ slash → ¬ (Has piece k c) → ¬ (Has first_answer (p + k) c)
  not_after k c l other none has = ⊎_elim
      (λ below. none (Has-out k c below has))
      (λ end. let e : k ≡ length piece = omega arith in other (Has-after c (subst (λ n. Has first_answer (p + n) c) e has)))
      (cases_lt k (length piece))

  between-in : (i j : ℕ) → j ≤ length piece → between first_answer (p + i) (p + j) ≡ between piece i j
  between-in i j l = ⊎_elim within (λ over. outside over) (cases_lt i j)
    where
      within : i < j → between first_answer (p + i) (p + j) ≡ between piece i j
      within b =
          let n : p + j - (p + i) ≡ j - i = omega arith in
          ap₂ take n (sym (drop-drop i p first_answer) ∙ ap (drop i) s.at ∙ drop-append-le i piece s.rest (omega arith))
          ∙ take-append-le (j - i) (drop i piece) s.rest (omega (arith, length-drop i piece))

      outside : j ≤ i → between first_answer (p + i) (p + j) ≡ between piece i j
      outside b =
          let n : p + j - (p + i) ≡ 0 = omega arith in
          let m : j - i ≡ 0 = omega arith in
          ap (λ x. take x (drop (p + i) first_answer)) n ∙ ap (λ x. take x (drop i piece)) (sym m)

  moved : (a b : ℕ) (c : ℕ) → a ≡ b → Has first_answer a c → Has first_answer b c
  moved a b c e h = subst (λ k. Has first_answer k c) e h

  Closes-in : (i e : ℕ) → e ≤ length piece → ClosesBefore piece i e → ClosesBefore first_answer (p + i) (p + e)
  Closes-in i e l closes =
      let last : p + (e - 1) ≡ p + e - 1 = omega (arith, closes.0) in (
        omega (arith, closes.0),
        moved (p + (e - 1)) (p + e - 1) close_bracket last (Has-in (e - 1) close_bracket closes.1),
        λ k low high has.
            let back : k ≡ p + (k - p) = omega arith in
            closes.2 (k - p) (omega arith) (omega arith) (Has-out (k - p) close_bracket (omega arith)
            (moved k (p + (k - p)) close_bracket back has)),
      )

  UnitAt-in : (f : ℕ) (t : Token) (e : ℕ) → is_inner t ≡ true → UnitAt piece f t e → UnitAt first_answer (p + f) t (p + e)
  UnitAt-in f (Literal c) e inner unit = (Has-in f c unit.0, unit.1, unit.2, unit.3, omega arith)
  UnitAt-in f AnyChar e inner unit = (Has-in f question_mark unit.0, omega arith)
  UnitAt-in f AnySequence e inner unit =
      let at : Has piece f star = unit.0.0 f (omega arith) (omega arith) in (
        (
          λ k low high. let here : p + f ≡ k = omega arith in moved (p + f) k star here (Has-in f star at),
          λ has. let next : p + f + 1 ≡ p + (f + 1) = omega arith in not_after (f + 1) star (omega arith)
              (λ x. omega arith) unit.0.1 (moved (p + f + 1) (p + (f + 1)) star next has),
          before at unit.0.2,
        ),
        omega arith,
      )
    where
      before : Has piece f star → (0 < f → ¬ (Has piece (f - 1) star)) → 0 < p + f → ¬ (Has first_answer (p + f - 1) star)
      before at none l has = ⊎_elim
          (λ first.
          let start : p + f - 1 ≡ p - 1 = omega arith in
          let same : star ≡ slash = Has-before star (omega arith) (moved (p + f - 1) (p - 1) star start has) in absurd (omega arith))
          (λ later.
          let back : p + f - 1 ≡ p + (f - 1) = omega arith in
          none (omega arith) (Has-out (f - 1) star (omega arith) (moved (p + f - 1) (p + (f - 1)) star back has)))
          (cases_lt f 1)
  UnitAt-in f Recursive e inner unit = absurd (false≢true inner)
  UnitAt-in f (OneOf entries) e inner unit =
      let l = UnitAt-within piece f (OneOf entries) e unit in
      let next : p + f + 1 ≡ p + (f + 1) = omega arith in
      let second : p + f + 2 ≡ p + (f + 2) = omega arith in
      let last : p + e - 1 ≡ p + (e - 1) = omega (arith, l) in (
        Has-in f open_bracket unit.0,
        (λ has. unit.1 (Has-out (f + 1) exclamation_mark (omega (arith, unit.2.0, l)) (moved (p + f + 1)
            (p + (f + 1)) exclamation_mark next has))),
        subst (λ k. ClosesBefore first_answer k (p + e)) (sym second) (Closes-in (f + 2) e l.1 unit.2),
        unit.3 ∙ ap entries_of (sym (between-in (f + 1) (e - 1) (omega arith)) ∙ ap₂ (λ i j. between first_answer i j)
            (sym next) (sym last)),
      )
  UnitAt-in f (NoneOf entries) e inner unit =
      let l = UnitAt-within piece f (NoneOf entries) e unit in
      let next : p + f + 1 ≡ p + (f + 1) = omega arith in
      let second : p + f + 2 ≡ p + (f + 2) = omega arith in
      let third : p + f + 3 ≡ p + (f + 3) = omega arith in
      let last : p + e - 1 ≡ p + (e - 1) = omega (arith, l) in (
        Has-in f open_bracket unit.0,
        moved (p + (f + 1)) (p + f + 1) exclamation_mark (sym next) (Has-in (f + 1) exclamation_mark unit.1),
        subst (λ k. ClosesBefore first_answer k (p + e)) (sym third) (Closes-in (f + 3) e l.1 unit.2),
        unit.3 ∙ ap entries_of (sym (between-in (f + 2) (e - 1) (omega arith)) ∙ ap₂ (λ i j. between first_answer i j)
            (sym second) (sym last)),
      )

  UnitsBetween-in : (f : ℕ) (ts : List Token) (e : ℕ) → list_all is_inner ts ≡ true → UnitsBetween piece f ts e
      → UnitsBetween first_answer (p + f) ts (p + e)
  UnitsBetween-in f [] e inner units = ap (λ k. p + k) units
  UnitsBetween-in f (t ∷ ts) e inner (m, unit, units) =
      let both = and_parts (is_inner t) (list_all is_inner ts) inner in
      (p + m, UnitAt-in f t m both.0 unit, UnitsBetween-in m ts e both.1 units)

  -- `**`
  UnitAt-deep : piece ≡ star ∷ star ∷ [] → (rest : Text) → s.rest ≡ rest → (e : ℕ) → ((rest ≡ []) × (e ≡ p + 2)) ⊎
      ((r : Text) × (rest ≡ slash ∷ r) × (e ≡ p + 3)) → UnitAt first_answer p Recursive e
  UnitAt-deep is rest same e ends =
      let l : length piece ≡ 2 = ap length is in
      let first : Has piece 0 star = (omega arith, ap (λ t. slice_index t 0) is) in
      let second : Has piece 1 star = (omega arith, ap (λ t. slice_index t 1) is) in
      let z : p + 0 ≡ p = omega arith in
      let two : p + 2 ≡ p + length piece = omega arith in (
        (
          λ k low high. ⊎_elim
              (λ here. let at : p + 0 ≡ k = omega arith in moved (p + 0) k star at (Has-in 0 star first))
              (λ next. let at : p + 1 ≡ k = omega arith in moved (p + 1) k star at (Has-in 1 star second)) (cases_lt k (p + 1)),
          λ has. let wrong : star ≡ slash = Has-after star (moved (p + 2) (p + length piece) star two has) in absurd (omega arith),
          λ l' has. let wrong : star ≡ slash = Has-before star l' has in absurd (omega arith),
        ),
        s.opening,
        ⊎_elim
            (λ last. inl (
              last.1,
              last.1 ∙ two ∙ length-at_end first_answer (p + length piece)
                  (drop-after_piece first_answer piece s.rest p s.at ∙ same ∙ last.0) end_within,
            ))
            (λ more.
            let on : drop (p + length piece) first_answer ≡ slash ∷ more.0 = drop-after_piece first_answer piece s.rest
            p s.at ∙ same ∙ more.1 in
            inr (
              more.2,
              moved (p + length piece) (p + 2) slash (sym two) (
                omega (
                  arith,
                  length-at_drop first_answer
                      more.0 (p + length piece) slash on,
                ),
                get_or-at_drop first_answer more.0 (p + length piece) slash 0 on,
              ),
            ))
            ends,
      )

-- units, followed by more units
UnitsBetween-append : (text : Text) (f : ℕ) (ts us : List Token) (m e : ℕ) → UnitsBetween text f ts m → UnitsBetween
    text m us e → UnitsBetween text f (ts ++ us) e
UnitsBetween-append text f [] us m e first second = subst (λ k. UnitsBetween text k us e) (sym first) second
UnitsBetween-append text f (t ∷ ts) us m e (n, unit, units) second = (n, unit, UnitsBetween-append text n ts us m e units second)

opens-after : (first_answer r : Text) (q : ℕ) → drop q first_answer ≡ slash ∷ r → opens first_answer (q + 1) ≡ true
opens-after first_answer r q e =
    let back : q + 1 - 1 ≡ q = omega arith in
    or_right (q + 1 == 0) (slice_index first_answer (q + 1 - 1) == slash) (eq-eqb _ _ (ap (slice_index first_answer)
    back ∙ get_or-at_drop first_answer r q slash 0 e))

-- joined components from place p on: their units are the units there
pub joined-units : (first_answer : Text) (t : Text) (ts : List Text) (ps : List Part) (p : ℕ) → AreParts (t ∷ ts) ps
    → drop p first_answer ≡ join_with_byte slash (t ∷ ts) → p ≤ length first_answer → opens first_answer p ≡ true
    → UnitsBetween first_answer p (joined_tokens ps) (length first_answer)
joined-units first_answer t ts [] p are at within opening = absurd are
joined-units first_answer t [] (Levels ∷ []) p are at within opening =
    let s : Stands first_answer t p = record {
      rest = [];
      at = at ∙ sym (append-nil t);
      ends = inl refl;
      within =
          within;
      opening = opening;
    } in
    let l : length t ≡ 2 = ap length are.0 in
    let end : length first_answer ≡ p + 2 = sym (length-at_end first_answer (p + length t)
    (drop-after_piece first_answer t [] p s.at) (end_within first_answer t p s)) ∙ ap (λ n. p + n) l in
    (length first_answer, UnitAt-deep first_answer t p s are.0 [] refl (length first_answer) (inl (refl, end)), refl)
joined-units first_answer t [] (Levels ∷ q ∷ ps) p are at within opening = absurd are.1
joined-units first_answer t (u ∷ us) (Levels ∷ ps) p are at within opening =
    let s : Stands first_answer t p = record {
      rest = slash ∷ join_with_byte slash (u ∷ us);
      at = at;
      ends = inr
          (join_with_byte slash (u ∷ us), refl);
      within = within;
      opening = opening;
    } in
    let l : length t ≡ 2 = ap length are.0 in
    let on : drop (p + length t) first_answer ≡ slash ∷ join_with_byte slash (u ∷ us) = drop-after_piece first_answer t s.rest p at in
    let next : p + length t + 1 ≡ p + 3 = omega arith in (
      p + 3,
      UnitAt-deep first_answer t p s are.0 s.rest refl (p + 3) (inr (join_with_byte slash (u ∷ us), refl, refl)),
      joined-units first_answer u us ps (p + 3) are.1
          (ap (λ k. drop k first_answer) (sym next) ∙ drop-at_drop first_answer (join_with_byte slash (u ∷ us)) (p + length t) slash on)
          (omega (arith, length-at_drop first_answer (join_with_byte slash (u ∷ us)) (p + length t) slash on))
          (ap (opens first_answer) (sym next) ∙ opens-after first_answer (join_with_byte slash (u ∷ us)) (p + length t) on),
    )
joined-units first_answer t [] (Level vs ∷ []) p are at within opening =
    let s : Stands first_answer t p = record {
      rest = [];
      at = at ∙ sym (append-nil t);
      ends = inl refl;
      within =
          within;
      opening = opening;
    } in
    let end : p + length t ≡ length first_answer = length-at_end first_answer (p + length t)
    (drop-after_piece first_answer t [] p s.at) (end_within first_answer t p s) in
    let z : p + 0 ≡ p = omega arith in
    subst (λ k. UnitsBetween first_answer k vs (length first_answer)) z (subst (λ k. UnitsBetween first_answer
    (p + 0) vs k) end (UnitsBetween-in first_answer t p s 0 vs (length t) are.2 are.0))
joined-units first_answer t [] (Level vs ∷ q ∷ ps) p are at within opening = absurd are.3
joined-units first_answer t (u ∷ us) (Level vs ∷ []) p are at within opening = absurd are.3
joined-units first_answer t (u ∷ us) (Level vs ∷ q ∷ ps) p are at within opening =
    let s : Stands first_answer t p = record {
      rest = slash ∷ join_with_byte slash (u ∷ us);
      at = at;
      ends = inr
          (join_with_byte slash (u ∷ us), refl);
      within = within;
      opening = opening;
    } in
    let on : drop (p + length t) first_answer ≡ slash ∷ join_with_byte slash (u ∷ us) = drop-after_piece first_answer t s.rest p at in
    let z : p + 0 ≡ p = omega arith in
    UnitsBetween-append first_answer p vs (Literal slash ∷ joined_tokens (q ∷ ps)) (p + length t) (length first_answer)
    (subst (λ k. UnitsBetween first_answer k vs (p + length t)) z (UnitsBetween-in first_answer t p s 0 vs (length t) are.2 are.0)) (
      p + length t + 1,
      UnitAt-plain first_answer (join_with_byte slash (u ∷ us)) (p + length t) slash (
        (λ x. omega arith),
        (λ x. omega arith),
        (λ x. omega arith),
      ) on,
      joined-units first_answer u us (q ∷ ps) (p + length t + 1) are.3
          (drop-at_drop first_answer (join_with_byte slash (u ∷ us)) (p + length t) slash on)
          (omega (arith, length-at_drop first_answer (join_with_byte slash (u ∷ us)) (p + length t) slash on))
          (opens-after first_answer (join_with_byte slash (u ∷ us)) (p + length t) on),
    )
