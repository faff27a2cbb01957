-- Ascending lists with the same numbers are equal, so that sorting the numbers of all matches gives the promised list.
use Rattle.std.proofs.Common.{◌≡◌, ℕ, zero, suc, ◌<◌, ◌≤◌, ◌⊎◌, ◌↔◌, inl, inr, Bool, true, false, IsTrue, IsPermutation}
use Rattle.std.proofs.Common.{IsSorted, nat_cmp, nat_eq, chars, List, [], ◌∷◌, ◌++◌, length, take, get_or, Contains}
use Rattle.std.proofs.Common.{AllPairs, refl, sym, ap₂, subst, ◌∙◌, arith, ⊎_elim}
use Rattle.std.proofs.lemmas.Bool.{cases_lt, false≢true}
use Rattle.std.proofs.lemmas.List.{take-append-le, take_all}
use Rattle.std.proofs.lemmas.List.Elements.{All-contains, All-contains_itself, Contains-get_or, Contains-append_left}
use Rattle.std.proofs.lemmas.List.Elements.{Contains-push, Contains-push_cases}
use Rattle.std.proofs.lemmas.List.Kept.{AllPairs-from_increasing, Contains-dedup_nat, Contains-from_dedup}
use Rattle.std.proofs.lemmas.List.Filters.{dedup_is}
use Rattle.std.proofs.lemmas.List.Sorted.{All-permutation, Contains-permutation}
use Rattle.std.proofs.lemmas.Map.Keys.{IsStrictlyIncreasing-dedup}
use Rattle.std.specs.List.{dedup}
use Rattle.std.specs.List.Retain.{IsFiltered, DiffersFromLast}
use Rattle.std.proofs.lemmas.List.Quantifiers.{all_pairs_push}
use Rattle.glob_text.specs.Text.{Text}
use Rattle.glob_pattern.specs.declared.options.MatchOptions.{MatchOptions}
use Rattle.glob_pattern.specs.Computing.Deciding.{is_match}
use Rattle.glob_pattern.specs.Matching.Texts.{Matches}
use Rattle.glob_pattern.proofs.CallerLemmas.{match_decided}
use Rattle.glob_set.specs.Private.Asking.{AreMatches}
use Rattle.glob_set.specs.Sets.{MatchesAt, matches_below, all_matches}
use Rattle.glob_set.proofs.ListReading.{matches_below-yes, matches_below-no, within_patterns}

-- the first numbers of two joined lists are the first numbers of the first list
pub first_part : (n : ℕ) (xs ys : List ℕ) → length xs ≡ n → take n (xs ++ ys) ≡ xs
first_part n xs ys len = take-append-le n xs ys (omega arith) ∙ take_all n xs (omega arith)

-- each is below the later ones
abbrev pub Ascends : List ℕ → Type 0
Ascends = AllPairs (λ x y. x < y)

ascends_tail : (x : ℕ) (xs : List ℕ) → Ascends (x ∷ xs) → Ascends xs
ascends_tail x xs up i j d before within = up (suc i) (suc j) d (omega arith) (omega arith)

above_head : (x : ℕ) (xs : List ℕ) → Ascends (x ∷ xs) → (k : ℕ) → Contains xs k → x < k
above_head x xs up k (j, within, is) = let e : x < get_or xs j k = up 0 (suc j) k (omega arith) (omega arith) in omega (arith, e, is)

cons_cases : (x : ℕ) (xs : List ℕ) (k : ℕ) → Contains (x ∷ xs) k → (k ≡ x) ⊎ Contains xs k
cons_cases x xs k (zero, within, is) = inl (sym is)
cons_cases x xs k (suc j, within, is) = inr (j, omega arith, is)

head_of : (x : ℕ) (xs : List ℕ) → Contains (x ∷ xs) x
head_of x xs = (0, omega arith, refl)

tail_of : (x : ℕ) (xs : List ℕ) (k : ℕ) → Contains xs k → Contains (x ∷ xs) k
tail_of x xs k (j, within, is) = (suc j, omega arith, is)

none_in : (k : ℕ) → ¬ (Contains {X = ℕ} [] k)
none_in k (j, within, is) = omega arith

Among : List ℕ → List ℕ → Type 0
Among xs ys = (k : ℕ) → Contains xs k → Contains ys k

same_members : (xs ys : List ℕ) → Ascends xs → Ascends ys → Among xs ys → Among ys xs → xs ≡ ys
unfolding Among
same_members [] [] up_x up_y to from = refl
same_members [] (y ∷ ys) up_x up_y to from = absurd (none_in y (from y (head_of y ys)))
same_members (x ∷ xs) [] up_x up_y to from = absurd (none_in x (to x (head_of x xs)))
same_members (x ∷ xs) (y ∷ ys) up_x up_y to from =
    let same : x ≡ y =
    ⊎_elim (λ e. e)
    (λ in_y. ⊎_elim (λ e. sym e)
    (λ in_x. absurd (omega (arith, above_head x xs up_x y in_x, above_head y ys up_y x in_y)))
    (cons_cases x xs y (from y (head_of y ys))))
    (cons_cases y ys x (to x (head_of x xs))) in
    ap₂ (λ h t. h ∷ t) same
    (same_members xs ys (ascends_tail x xs up_x) (ascends_tail y ys up_y)
    (λ k has. ⊎_elim (λ e. absurd (omega (arith, e, same, above_head x xs up_x k has))) (λ other. other)
    (cons_cases y ys k (to k (tail_of x xs k has))))
    (λ k has. ⊎_elim (λ e. absurd (omega (arith, e, same, above_head y ys up_y k has))) (λ other. other)
    (cons_cases x xs k (from k (tail_of y ys k has)))))

-- the numbers below n of the matches, as their list has them
record MatchesBelow (o : MatchOptions) (patterns : List Text) (text : Text) (n : ℕ) (numbers : List ℕ) : Type 0 where
  up : Ascends numbers
  below : (k : ℕ) → Contains numbers k → k < n
  only : (k : ℕ) → Contains numbers k → MatchesAt o patterns text k
  all : (k : ℕ) → k < n → MatchesAt o patterns text k → Contains numbers k

module _ (o : MatchOptions) (patterns : List Text) (text : Text) where
  decided : (n : ℕ) → n < length patterns → MatchesAt o patterns text n ⊎ ¬ (MatchesAt o patterns text n)
  unfolding MatchesAt
  decided n below = of (is_match o (chars (get_or patterns n [])) (chars text)) (match_decided o
      (chars (get_or patterns n [])) (chars text))
    where
      of : (b : Bool) → IsTrue b ↔ Matches o (chars (get_or patterns n [])) (chars text)
          → ((n < length patterns) × Matches o (chars (get_or patterns n [])) (chars text)) ⊎ ¬ ((n < length patterns)
          × Matches o (chars (get_or patterns n [])) (chars text))
      of true answer = inl (below, answer.0 refl)
      of false answer = inr (λ at. false≢true (answer.1 at.1))

  with_next : (n : ℕ) (numbers : List ℕ) → MatchesAt o patterns text n → MatchesBelow o patterns text n numbers
      → MatchesBelow o patterns text (suc n) (numbers ++ n ∷ [])
  with_next n numbers at m = record {
    up = all_pairs_push (λ x y. x < y) numbers n m.up (λ k d under. m.below (get_or numbers k d) (Contains-get_or numbers k d under));
    below = λ k has. ⊎_elim (λ old. let e : k < n = m.below k old in omega (arith, e)) (λ new. omega (arith, new))
        (Contains-push_cases numbers n k has);
    only = λ k has. ⊎_elim (m.only k) (λ new. subst (MatchesAt o patterns text) new at) (Contains-push_cases numbers n k has);
    all = λ k under here.
        ⊎_elim
        (λ low. Contains-append_left numbers (n ∷ []) k (m.all k low here))
        (λ from. let same : n ≡ k = omega (arith, under, from) in subst (Contains (numbers ++ n ∷ [])) same (Contains-push numbers n))
        (cases_lt k n);
  }

  without_next : (n : ℕ) (numbers : List ℕ) → ¬ (MatchesAt o patterns text n) → MatchesBelow o patterns text n numbers
      → MatchesBelow o patterns text (suc n) numbers
  without_next n numbers not m = record {
    up = m.up;
    below = λ k has. let e : k < n = m.below k has in omega (arith, e);
    only = m.only;
    all = λ k under here.
        ⊎_elim
        (λ low. m.all k low here)
        (λ from. let same : k ≡ n = omega (arith, under, from) in absurd (not (subst (MatchesAt o patterns text) same here)))
        (cases_lt k n);
  }

  are_below : (n : ℕ) → n ≤ length patterns → MatchesBelow o patterns text n (matches_below o patterns text n)
  are_below zero within = record {
    up = λ i j d before under. absurd (omega (arith, under));
    below = λ k has. absurd (none_in k has);
    only = λ k has. absurd (none_in k has);
    all = λ k under. absurd (omega (arith, under));
  }
  are_below (suc n) within =
      ⊎_elim
      (λ at. subst (MatchesBelow o patterns text (suc n)) (sym (matches_below-yes o patterns text n at))
      (with_next n (matches_below o patterns text n) at (are_below n (omega (arith, within)))))
      (λ not. subst (MatchesBelow o patterns text (suc n)) (sym (matches_below-no o patterns text n
      (omega (arith, within)) not)) (without_next n (matches_below o patterns text n) not
      (are_below n (omega (arith, within)))))
      (decided n (omega (arith, within)))

  -- the numbers of the matches, sorted and without repetitions
  pub all_matches-sorted : (pushed sorted new : List ℕ) → AreMatches o patterns text pushed → IsPermutation pushed
      sorted → IsSorted nat_cmp sorted
      → IsFiltered (DiffersFromLast nat_eq) [] sorted new → new ≡ all_matches o patterns text
  unfolding AreMatches all_matches Among
  all_matches-sorted pushed sorted new are permutation order filtered =
      let m = are_below (length patterns) (omega arith) in
      let deduped : new ≡ dedup nat_eq sorted = dedup_is nat_eq sorted new filtered in
      let up : Ascends new = subst Ascends (sym deduped) (AllPairs-from_increasing (dedup nat_eq sorted)
      (IsStrictlyIncreasing-dedup sorted order)) in
      let back : (k : ℕ) → Contains sorted k → Contains pushed k =
      λ k has. All-contains (Contains pushed) sorted k (All-permutation (Contains pushed) pushed sorted permutation
      (All-contains_itself pushed)) has in
      same_members new (matches_below o patterns text (length patterns)) up m.up
      (λ k has.
      let at = are.0 k (back k (Contains-from_dedup nat_eq sorted k (subst (λ ks. Contains ks k) deduped has))) in
      m.all k (within_patterns o patterns text k at) at)
      (λ k has. subst (λ ks. Contains ks k) (sym deduped) (Contains-dedup_nat sorted k (Contains-permutation pushed
      sorted k permutation (are.1 k (m.only k has)))))
