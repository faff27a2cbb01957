-- Which of its texts a loop keeps.
use Rattle.std.proofs.Common.{◌≡◌, ◌⊎◌, ◌↔◌, inl, inr, ⊎_elim, zero, suc, List, [], ◌∷◌, Contains, refl, sym, subst, arith}
use Rattle.std.specs.Prelude.{All, AllPairs}
use Rattle.std.proofs.lemmas.List.Elements.{All-cons, All-head, All-tail, Contains-append_right, Contains-append_cases, Contains-push_cases}
use Rattle.std.proofs.lemmas.List.Kept.{AllPairs-cons}
use Rattle.glob_lines.specs.Lines.{AreKept}
pub use Rattle.glob_lines.proofs.LineLemmas.KeptLines.{AreKept-push, AreKept-pass}
use Rattle.glob_text.specs.Text.{Text}

module _ (P : Text → Type 0) where
  Contains-first : (first : Text) (texts : List Text) → Contains (first ∷ texts) first
  Contains-first first texts = (zero, omega arith, refl)

  Contains-later : (first text : Text) (texts : List Text) → Contains texts text → Contains (first ∷ texts) text
  Contains-later first text texts has = Contains-append_right (first ∷ []) texts text has

  first_or_later : (first text : Text) (texts : List Text) → Contains (first ∷ texts) text → (first ≡ text) ⊎ Contains texts text
  first_or_later first text texts has =
      ⊎_elim
      (λ one. ⊎_elim (λ none. absurd (omega (arith, none.1))) (λ same. inl same) (Contains-push_cases [] first text one))
      (λ later. inr later)
      (Contains-append_cases (first ∷ []) texts text has)

  -- what is kept is among the texts, and satisfies P
  pub AreKept-has : (texts kept : List Text) → AreKept P texts kept → (text : Text) → Contains kept text → Contains texts text × P text
  AreKept-has [] kept keeps text has = absurd (omega (arith, (subst (λ xs. Contains xs text) keeps has).1))
  AreKept-has (first ∷ texts) kept (inl (here, (others, is, are))) text has =
      ⊎_elim
      (λ same. (subst (Contains (first ∷ texts)) same (Contains-first first texts), subst P same here))
      (λ later. let both = AreKept-has texts others are text later in (Contains-later first text texts both.0, both.1))
      (first_or_later first text others (subst (λ xs. Contains xs text) is has))
  AreKept-has (first ∷ texts) kept (inr k) text has =
      let both = AreKept-has texts kept k.1 text has in (Contains-later first text texts both.0, both.1)

  -- each of the texts that satisfies P is kept
  pub AreKept-all : (texts kept : List Text) → AreKept P texts kept → (text : Text) → Contains texts text → P text → Contains kept text
  AreKept-all [] kept keeps text has is = absurd (omega (arith, has.1))
  AreKept-all (first ∷ texts) kept (inl (here, (others, split, are))) text has is =
      subst (λ xs. Contains xs text) (sym split)
      (⊎_elim
      (λ same. subst (Contains (first ∷ others)) same (Contains-first first others))
      (λ later. Contains-later first text others (AreKept-all texts others are text later is))
      (first_or_later first text texts has))
  AreKept-all (first ∷ texts) kept (inr k) text has is =
      ⊎_elim
      (λ same. absurd (k.0 (subst P (sym same) is)))
      (λ later. AreKept-all texts kept k.1 text later is)
      (first_or_later first text texts has)

  -- so a text is kept exactly when it is one of them and satisfies P
  pub AreKept-exact : (texts kept : List Text) → AreKept P texts kept → (text : Text) → Contains kept text ↔ (Contains texts text × P text)
  AreKept-exact texts kept keeps text = (AreKept-has texts kept keeps text, λ both. AreKept-all texts kept keeps text both.0 both.1)

  -- what holds for all texts holds for the kept ones
  pub AreKept-All : (Q : Text → Type 0) (texts kept : List Text) → AreKept P texts kept → All Q texts → All Q kept
  AreKept-All Q [] kept keeps all = subst (All Q) (sym keeps) all
  AreKept-All Q (first ∷ texts) kept (inl (here, (others, is, are))) all =
      subst (All Q) (sym is)
      (All-cons Q first others (All-head Q first texts all) (AreKept-All Q texts others are (All-tail Q first texts all)))
  AreKept-All Q (first ∷ texts) kept (inr k) all = AreKept-All Q texts kept k.1 (All-tail Q first texts all)

  -- the same for what holds for each text and the texts after it
  pub AreKept-AllPairs : (R : Text → Text → Type 0) (texts kept : List Text) → AreKept P texts kept → AllPairs R texts → AllPairs R kept
  AreKept-AllPairs R [] kept keeps all = subst (AllPairs R) (sym keeps) all
  AreKept-AllPairs R (first ∷ texts) kept (inl (here, (others, is, are))) all =
      let after : All (R first) texts = λ j d within. all zero (suc j) d (omega arith) (omega arith) in
      let rest : AllPairs R texts = λ i j d less within. all (suc i) (suc j) d (omega arith) (omega arith) in
      subst (AllPairs R) (sym is)
      (AllPairs-cons R first others (AreKept-All (R first) texts others are after) (AreKept-AllPairs R texts others are rest))
  AreKept-AllPairs R (first ∷ texts) kept (inr k) all =
      AreKept-AllPairs R texts kept k.1 (λ i j d less within. all (suc i) (suc j) d (omega arith) (omega arith))
