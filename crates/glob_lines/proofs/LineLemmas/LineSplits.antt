-- The first record of some bytes.
use Rattle.std.proofs.Common.{◌≡◌, ◌≢◌, ℕ, ◌+◌, ◌<◌, ◌==◌, List, [], ◌∷◌, ◌++◌, None, Some, Bool, inl, inr, length}
use Rattle.std.proofs.Common.{take, drop, get_or, eqb, ltb, false, refl, sym, ap, ◌∙◌, subst, append-nil, append_assoc}
use Rattle.std.proofs.Common.{arith}
use Rattle.std.specs.List.{position, position_or_len}
use Rattle.std.proofs.lemmas.Option.{none-some}
use Rattle.std.proofs.lemmas.List.Sums.{fails_before_first}
use Rattle.std.proofs.lemmas.Bool.{cases_Bool, ne_eqb, eqb-true, eqb-false, cond-false, cond-true, ltb-false, eq-eqb}
use Rattle.std.proofs.lemmas.List.{take-append-drop, drop_more, get_or-take, length-take}
use Rattle.std.proofs.lemmas.List.Quantifiers.{position-Some}
use Rattle.std.proofs.lemmas.List.Elements.{All-nil, All-head, All-tail, All-from_get_or}
use Rattle.glob_lines.specs.Lines.{records_of, onto_first, HasNoEnd, AreWhole}

-- if no place passes, no item does
position_or_len-none : (p : ℕ → Bool) (xs : List ℕ) → position p xs ≡ None → (k d : ℕ) → k < length xs → p (get_or xs k d) ≡ false
position_or_len-none p xs none k d within =
    elim (cases_Bool (ltb (position_or_len p xs) (length xs))) [
      | inl some ↦ absurd (none-some _ (sym none ∙ cond-true _ (Some (position_or_len p xs)) None some))
      | inr past ↦ fails_before_first p xs k d (omega (arith, ltb-false (position_or_len p xs) (length xs) past))
    ]

module _ (end : ℕ) where
  -- a byte that ends no record goes to the first one
  records_of-cons : (x : ℕ) (xs : List ℕ) → x ≢ end → records_of end (x ∷ xs) ≡ onto_first x (records_of end xs)
  records_of-cons x xs other = cond-false (eqb x end) ([] ∷ records_of end xs) (onto_first x (records_of end xs)) (ne_eqb x end other)

  -- a record and its end are first
  pub records_of-ended : (one rest : List ℕ) → HasNoEnd end one → records_of end (one ++ end ∷ rest) ≡ one ∷ records_of end rest
  records_of-ended [] rest none = cond-true (eqb end end) _ _ (eq-eqb end end refl)
  records_of-ended (x ∷ xs) rest none =
      records_of-cons x (xs ++ end ∷ rest) (All-head (λ b. b ≢ end) x xs none)
      ∙ ap (onto_first x) (records_of-ended xs rest (All-tail (λ b. b ≢ end) x xs none))

  -- bytes that end no record are one record, if there are any
  pub records_of-last : (one : List ℕ) → HasNoEnd end one → 0 < length one → records_of end one ≡ one ∷ []
  records_of-last [] none some = absurd (omega arith)
  records_of-last (x ∷ []) none some = records_of-cons x [] (All-head (λ b. b ≢ end) x [] none)
  records_of-last (x ∷ y ∷ ys) none some =
      records_of-cons x (y ∷ ys) (All-head (λ b. b ≢ end) x (y ∷ ys) none)
      ∙ ap (onto_first x) (records_of-last (y ∷ ys) (All-tail (λ b. b ≢ end) x (y ∷ ys) none) (omega arith))

  -- the first end is at this place
  pub records_of-place : (bytes : List ℕ) (i : ℕ) → position (λ b. b == end) bytes ≡ Some i → records_of end bytes ≡
      take i bytes ∷ records_of end (drop (i + 1) bytes)
  records_of-place bytes i found =
      let (within, is, before) = position-Some (λ b. b == end) bytes i 0 found in
      let none : HasNoEnd end (take i bytes) = All-from_get_or (λ b. b ≢ end) (take i bytes) 0 (λ k short.
      let k_before : k < i = omega (arith, length-take i bytes) in
      subst (λ b. b ≢ end) (sym (get_or-take i bytes k 0 k_before)) (eqb-false (get_or bytes k 0) end (before k k_before))) in
      let whole : bytes ≡ take i bytes ++ end ∷ drop (i + 1) bytes =
      sym (take-append-drop i bytes) ∙ ap (λ l. take i bytes ++ l) (drop_more bytes i 0 within
      ∙ ap (λ b. b ∷ drop (i + 1) bytes) (eqb-true (get_or bytes i 0) end is)) in
      ap (records_of end) whole ∙ records_of-ended (take i bytes) (drop (i + 1) bytes) none

  -- if no place is found, there is no end
  pub None-has_no_end : (bytes : List ℕ) → position (λ b. b == end) bytes ≡ None → HasNoEnd end bytes
  None-has_no_end bytes none k d within =
      eqb-false (get_or bytes k d) end (position_or_len-none (λ b. b == end) bytes none k d within)

  -- there is no end
  pub records_of-no_place : (bytes : List ℕ) → position (λ b. b == end) bytes ≡ None → 0 < length bytes → records_of end bytes ≡ bytes ∷ []
  records_of-no_place bytes none some = records_of-last bytes (None-has_no_end bytes none) some

  -- what is before an end has a first record, which does not depend on what is after
  first_before : (front : List ℕ) → (first : List ℕ) × ((others : List (List ℕ)) × ((more : List ℕ) → records_of end
      (front ++ end ∷ more) ≡ first ∷ (others ++ records_of end more)))
  first_before [] = ([], ([], λ more. records_of-ended [] more (All-nil (λ b. b ≢ end))))
  first_before (x ∷ xs) =
      let (first, (others, each)) = first_before xs in
      elim (cases_Bool (eqb x end)) [
        | inl is ↦ ([], (first ∷ others, λ more. cond-true (eqb x end) _ _ is ∙ ap (λ l. [] ∷ l) (each more)))
        | inr other ↦ (x ∷ first, (others, λ more. cond-false (eqb x end) _ _ other ∙ ap (onto_first x) (each more)))
      ]

  -- the records of whole records and more bytes are the whole records and then those of the other bytes
  pub records_of-whole : (whole more : List ℕ) → AreWhole end whole → records_of end (whole ++ more) ≡ records_of end
      whole ++ records_of end more
  records_of-whole whole more (inl none) = subst (λ l. records_of end (l ++ more) ≡ records_of end l ++ records_of end more) (sym none) refl
  records_of-whole whole more (inr (front, is)) =
      let (first, (others, each)) = first_before front in
      subst (λ l. records_of end (l ++ more) ≡ records_of end l ++ records_of end more) (sym is)
      (ap (records_of end) (append_assoc front (end ∷ []) more) ∙ each more
      ∙ ap (λ l. first ∷ (l ++ records_of end more)) (sym (append-nil others)) ∙ ap (λ l. l ++ records_of end more) (sym (each [])))

  pub AreWhole-append : (a b : List ℕ) → AreWhole end a → AreWhole end b → AreWhole end (a ++ b)
  AreWhole-append a b first (inl none) = subst (AreWhole end) (sym (append-nil a) ∙ ap (λ l. a ++ l) (sym none)) first
  AreWhole-append a b first (inr (front, is)) = inr (a ++ front, ap (λ l. a ++ l) is ∙ sym (append_assoc a front (end ∷ [])))
