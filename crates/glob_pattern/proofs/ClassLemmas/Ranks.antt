-- The number of boundaries up to a character.
use Rattle.std.proofs.Common.{◌≡◌, ℕ, ◌+◌, ◌<◌, ◌≤◌, nat_le, List, length, get_or, sym, ◌∙◌, ⊎_elim, arith}
use Rattle.std.specs.List.{Contains, prefix_len}
use Rattle.std.specs.List.Sorted.{IsNonDecreasing, IsStrictlyIncreasing}
use Rattle.std.proofs.lemmas.Bool.{leb-true, leb-false, cases_lt}
use Rattle.std.proofs.lemmas.List.{get_or_default}
use Rattle.std.proofs.lemmas.List.Sorted.{IsNonDecreasingBy-from_all_adjacent}
use Rattle.std.proofs.lemmas.List.Sums.{prefix_len_passes, prefix_len_stops, prefix_len-le-length}

abbrev pub rank : List ℕ → ℕ → ℕ
rank xs c = prefix_len (λ first. nat_le first c) xs

module _ (xs : List ℕ) where
  pub passes : (c k : ℕ) → k < rank xs c → get_or xs k 0 ≤ c
  passes c k lt = leb-true _ _ (prefix_len_passes (λ first. nat_le first c) xs k 0 lt)

  stops : (c : ℕ) → rank xs c < length xs → c < get_or xs (rank xs c) 0
  stops c lt = leb-false _ _ (prefix_len_stops (λ first. nat_le first c) xs 0 lt)

  pub rank-le : (c : ℕ) → rank xs c ≤ length xs
  rank-le c = prefix_len-le-length (λ first. nat_le first c) xs

  -- a later character has no fewer boundaries before it
  pub rank-mono : (c d : ℕ) → c ≤ d → rank xs c ≤ rank xs d
  rank-mono c d le =
      ⊎_elim
      (λ lt. let within = rank-le c in let here : get_or xs (rank xs d) 0 ≤ c = passes c (rank xs d) lt in let past =
      stops d (omega (arith, lt, within)) in absurd (omega (arith, here, past, le)))
      (λ ge. ge)
      (cases_lt (rank xs d) (rank xs c))

  module _ (up : IsNonDecreasing xs) where
    -- a character from a boundary on has more boundaries up to it than one before it
    pub rank-strict : (c m d : ℕ) → c < m → m ≤ d → Contains xs m → rank xs c < rank xs d
    rank-strict c m d lt le (i, within, is) =
        let here : get_or xs i 0 ≡ m = sym (get_or_default xs i m 0 within) ∙ is in
        let first : rank xs c ≤ i = ⊎_elim
        (λ more. let low = passes c i more in absurd (omega (arith, here, low, lt)))
        (λ ge. ge)
        (cases_lt i (rank xs c)) in
        let last : i < rank xs d = ⊎_elim
        (λ more. more)
        (λ ge. let past = stops d (omega (arith, ge, within)) in let sorted = up (rank xs d) i 0 ge within in absurd
        (omega (arith, past, sorted, le, here)))
        (cases_lt i (rank xs d)) in
        omega (arith, first, last)

-- numbers that rise do not fall
pub non_decreasing : (xs : List ℕ) → IsStrictlyIncreasing xs → IsNonDecreasing xs
non_decreasing xs up = IsNonDecreasingBy-from_all_adjacent (λ x. x) xs
    (λ k d lt. let here : get_or xs k d ≡ get_or xs k 0 = get_or_default xs k d 0 (omega arith) in let next : get_or xs
    (k + 1) d ≡ get_or xs (k + 1) 0 = get_or_default xs (k + 1) d 0 lt in let less = up k lt in omega
    (arith, here, next, less))
