-- Clearing the lowest set bit of a word.
use Rattle.std.proofs.Common.{◌≡◌, ℕ, zero, suc, ◌+◌, ◌-◌, ◌*◌, ◌/◌, ◌%◌, ◌^◌, ◌<◌, ◌≤◌, ◌≢◌, ◌⊎◌, ◌↔◌, bit_and, bit_or}
use Rattle.std.proofs.Common.{inl, inr, ⊎_elim, refl, sym, ap, ◌∙◌, subst, arith}
use Rattle.std.specs.Int.{IsBitSet, bit_at, trailing_zeros, w64}
use Rattle.std.specs.Int.Count.{ones, ones_step}
use Rattle.std.proofs.lemmas.Nat.Bits.{bit_at-trailing_zeros, bit_at-zero, bit_at_lowest, bit_at-suc, bit_at_and, bit_at-lt, same_from_bits}
use Rattle.std.proofs.lemmas.Bool.{cases_eq}
use Rattle.glob_pattern.proofs.PositionLemmas.Spreading.{half_and, low_and}
use Rattle.glob_pattern.proofs.BitLemmas.Digits.{IsOne, IsOne-zero}
use Rattle.glob_pattern.proofs.BitLemmas.SetBits.{IsBitSet-iff_one, IsBitSet-or, IsBitSet-one}

and_self : (a : ℕ) → bit_and a a ≡ a
and_self a = same_from_bits (bit_and a a) a (λ i. let both = bit_at_and a a i in omega arith)

-- a number with a bit is not 0
positive_from_set : (n t : ℕ) → IsOne n t → 0 < n
positive_from_set zero t set = absurd (IsOne-zero t set)
positive_from_set (suc n) t set = omega arith

-- a number without a bit is 0
zero_from_none : (n : ℕ) → ((j : ℕ) → IsOne n j → ⊥) → n ≡ 0
zero_from_none n none = same_from_bits n 0 (λ i. let z = bit_at-zero i in let lt = bit_at-lt n i in let not_one :
    bit_at n i ≢ 1 = none i in omega arith)

-- an odd number without its lowest bit, halved, is its half
half_of_odd : (n : ℕ) → n % 2 ≡ 1 → bit_and n (n - 1) / 2 ≡ n / 2
half_of_odd n odd = let half : (n - 1) / 2 ≡ n / 2 = omega arith in half_and n (n - 1) ∙ ap (bit_and (n / 2)) half ∙ and_self (n / 2)

-- clearing the lowest bit of an even number clears the lowest bit of its half
half_of_even : (n : ℕ) → 0 < n → n % 2 ≡ 0 → bit_and n (n - 1) / 2 ≡ bit_and (n / 2) (n / 2 - 1)
half_of_even n positive even = let half : (n - 1) / 2 ≡ n / 2 - 1 = omega arith in half_and n (n - 1) ∙ ap (bit_and (n / 2)) half

-- it is even
even_cleared : (n : ℕ) → 0 < n → bit_and n (n - 1) % 2 ≡ 0
even_cleared n positive = let low = low_and n (n - 1) in omega arith

-- if bit t is the lowest, the others stay
IsOne-cleared : (t n : ℕ) → IsOne n t → ((i : ℕ) → i < t → bit_at n i ≡ 0) → (j : ℕ) → IsOne (bit_and n (n - 1)) j ↔ (IsOne n j × (j ≢ t))
IsOne-cleared zero n set none zero =
    let even = even_cleared n (positive_from_set n 0 set) in
    let low = bit_at_lowest (bit_and n (n - 1)) in
    (λ h. absurd (omega arith), λ (s, ne). absurd (ne refl))
IsOne-cleared zero n set none (suc j) =
    let odd : n % 2 ≡ 1 = sym (bit_at_lowest n) ∙ set in
    let up : bit_at (bit_and n (n - 1)) (suc j) ≡ bit_at n (suc j) = bit_at-suc (bit_and n (n - 1)) j ∙ ap
    (λ x. bit_at x j) (half_of_odd n odd) ∙ sym (bit_at-suc n j) in
    (λ h. (sym up ∙ h, λ e. absurd (omega arith)), λ (s, ne). up ∙ s)
IsOne-cleared (suc t) n set none zero =
    let even = even_cleared n (positive_from_set n (suc t) set) in
    let low = bit_at_lowest (bit_and n (n - 1)) in
    let first = none 0 (omega arith) in
    (λ h. absurd (omega arith), λ (s, ne). absurd (omega arith))
IsOne-cleared (suc t) n set none (suc j) =
    let even : n % 2 ≡ 0 = sym (bit_at_lowest n) ∙ none 0 (omega arith) in
    let up : bit_at (bit_and n (n - 1)) (suc j) ≡ bit_at (bit_and (n / 2) (n / 2 - 1)) j =
    bit_at-suc (bit_and n (n - 1)) j ∙ ap (λ x. bit_at x j) (half_of_even n (positive_from_set n (suc t) set) even) in
    let same = bit_at-suc n j in
    let ih = IsOne-cleared t (n / 2) (sym (bit_at-suc n t) ∙ set) (λ i lt. sym (bit_at-suc n i) ∙ none (suc i) (omega arith)) j in
    (λ h. (same ∙ (ih.0 (sym up ∙ h)).0, λ e. (ih.0 (sym up ∙ h)).1 (omega arith)), λ (s, ne). up ∙ ih.1 (sym same ∙ s, λ e. ne (ap suc e)))

-- and one bit fewer is set
ones-cleared_one : (t n : ℕ) → IsOne n t → ((i : ℕ) → i < t → bit_at n i ≡ 0) → ones (bit_and n (n - 1)) + 1 ≡ ones n
ones-cleared_one zero n set none =
    let odd : n % 2 ≡ 1 = sym (bit_at_lowest n) ∙ set in
    let even = even_cleared n (positive_from_set n 0 set) in
    let half : ones (bit_and n (n - 1) / 2) ≡ ones (n / 2) = ap ones (half_of_odd n odd) in
    let whole = ones_step n in
    let rest = ones_step (bit_and n (n - 1)) in
    omega arith
ones-cleared_one (suc t) n set none =
    let even : n % 2 ≡ 0 = sym (bit_at_lowest n) ∙ none 0 (omega arith) in
    let low = even_cleared n (positive_from_set n (suc t) set) in
    let half : ones (bit_and n (n - 1) / 2) ≡ ones (bit_and (n / 2) (n / 2 - 1)) = ap ones (half_of_even n
    (positive_from_set n (suc t) set) even) in
    let whole = ones_step n in
    let rest = ones_step (bit_and n (n - 1)) in
    let ih = ones-cleared_one t (n / 2) (sym (bit_at-suc n t) ∙ set) (λ i lt. sym (bit_at-suc n i) ∙ none (suc i) (omega arith)) in
    omega arith

-- a number has no more bits than places below which they are
ones_within_one : (m n : ℕ) → ((j : ℕ) → IsOne n j → j < m) → ones n ≤ m
unfolding ones
ones_within_one zero n below =
    let none : n ≡ 0 = zero_from_none n (λ j s. absurd (omega (arith, below j s))) in
    let no_ones : ones n ≡ 0 = ap ones none in
    omega arith
ones_within_one (suc m) n below =
    let ih = ones_within_one m (n / 2) (λ j s. omega (arith, below (suc j) (bit_at-suc n j ∙ s))) in
    let whole = ones_step n in
    omega arith

-- a bit that is not set is the digit 0
digit_from_none : (n i : ℕ) → ¬ (IsBitSet n i) → bit_at n i ≡ 0
digit_from_none n i none =
    let lt = bit_at-lt n i in
    let not_one : bit_at n i ≢ 1 = λ e. none ((IsBitSet-iff_one n i).1 e) in
    omega arith

-- the lowest bit of a word that is not 0
pub lowest_set : (n : ℕ) → 0 < n → n < 2 ^ 64
    → (trailing_zeros w64 n < 64) × IsBitSet n (trailing_zeros w64 n) × ((i : ℕ) → i < trailing_zeros w64 n → ¬ (IsBitSet n i))
lowest_set n positive fits =
    let (lt, one, zeros) = bit_at-trailing_zeros w64 n positive fits in (
      lt,
      (IsBitSet-iff_one n (trailing_zeros w64 n)).1 one,
      λ i below s. let is = (IsBitSet-iff_one n i).0 s in let z =
          zeros i below in omega (arith, is, z),
    )

-- if bit t is the lowest, the others stay
pub IsBitSet-cleared : (t n : ℕ) → IsBitSet n t → ((i : ℕ) → i < t → ¬ (IsBitSet n i)) → (j : ℕ) → IsBitSet
    (bit_and n (n - 1)) j ↔ (IsBitSet n j × (j ≢ t))
IsBitSet-cleared t n set none j =
    let cleared = IsOne-cleared t n ((IsBitSet-iff_one n t).0 set) (λ i lt. digit_from_none n i (none i lt)) j in
    let rest = IsBitSet-iff_one (bit_and n (n - 1)) j in
    let here = IsBitSet-iff_one n j in
    (λ s. let (one, ne) = cleared.0 (rest.0 s) in (here.1 one, ne), λ (s, ne). rest.1 (cleared.1 (here.0 s, ne)))

-- and one bit fewer is set
pub ones-cleared : (t n : ℕ) → IsBitSet n t → ((i : ℕ) → i < t → ¬ (IsBitSet n i)) → ones (bit_and n (n - 1)) + 1 ≡ ones n
ones-cleared t n set none = ones-cleared_one t n ((IsBitSet-iff_one n t).0 set) (λ i lt. digit_from_none n i (none i lt))

-- a number has no more bits than places below which they are
pub ones_within : (m n : ℕ) → ((j : ℕ) → IsBitSet n j → j < m) → ones n ≤ m
ones_within m n below = ones_within_one m n (λ j one. below j ((IsBitSet-iff_one n j).1 one))

-- The bits of `took` are the asked ones that satisfy P and are no longer left. The next to be asked is the lowest one
-- left.
pub took-more : (P : ℕ → Type 0) (asked left took next t : ℕ) → IsBitSet left t → ((i : ℕ) → i < t → ¬
    (IsBitSet left i)) → ((j : ℕ) → IsBitSet left j → IsBitSet asked j)
    → ((j : ℕ) → j < 64 → IsBitSet took j ↔ (IsBitSet asked j × (IsBitSet left j → ⊥) × P j)) → ((j : ℕ) → j < 64
    → IsBitSet next j ↔ (IsBitSet took j ⊎ ((j ≡ t) × P t)))
    → (j : ℕ) → j < 64 → IsBitSet next j ↔ (IsBitSet asked j × (IsBitSet (bit_and left (left - 1)) j → ⊥) × P j)
took-more P asked left took next t set none within before step j lt =
    let cleared = IsBitSet-cleared t left set none j in
    let old = before j lt in
    let new = step j lt in (
      λ h. ⊎_elim
          (λ s. let (a, n, p) = old.0 s in (a, λ l. n (cleared.0 l).0, p))
          (λ (e, p). (subst (IsBitSet asked) (sym e) (within t set), λ l. (cleared.0 l).1 e, subst P (sym e) p))
          (new.0 h),
      λ (a, n, p). new.1 (⊎_elim (λ e. inr (e, subst P e p)) (λ ne. inl (old.1 (a, λ l. n (cleared.1 (l, ne)), p))) (cases_eq j t)),
    )

-- the next word if the lowest was taken, and if it was not
pub next-taken : (P : ℕ → Type 0) (took t : ℕ) → t < 64 → P t → (j : ℕ) → j < 64 → IsBitSet
    (bit_or took (1 * 2 ^ t % 2 ^ 64)) j ↔ (IsBitSet took j ⊎ ((j ≡ t) × P t))
next-taken P took t lt p j _ =
    let or = IsBitSet-or took (1 * 2 ^ t % 2 ^ 64) j in
    let one = IsBitSet-one t j lt in
    (λ h. ⊎_elim inl (λ s. inr (one.0 s, p)) (or.0 h), λ h. or.1 (⊎_elim inl (λ (e, q). inr (one.1 e)) h))

pub next-left : (P : ℕ → Type 0) (took t : ℕ) → (P t → ⊥) → (j : ℕ) → j < 64 → IsBitSet took j ↔ (IsBitSet took j ⊎ ((j ≡ t) × P t))
next-left P took t none j _ = (inl, λ h. ⊎_elim (λ s. s) (λ (e, p). absurd (none p)) h)
