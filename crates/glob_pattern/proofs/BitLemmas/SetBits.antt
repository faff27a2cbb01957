-- The set bits of a word after bitwise operations and shifts.
use Rattle.std.proofs.Common.{◌≡◌, ℕ, suc, ◌+◌, ◌*◌, ◌/◌, ◌%◌, ◌^◌, ◌<◌, ◌≢◌, ◌⊎◌, ◌↔◌, Bool, not, nat_eq, IsTrue}
use Rattle.std.proofs.Common.{bit_and, bit_or, bit_xor, sym, ◌∙◌, inl, inr, ⊎_elim, arith}
use Rattle.std.specs.Int.{IsBitSet, bit_at, bit_not, w64}
use mir.Val.{bool_byte}
use Rattle.std.proofs.lemmas.Bool.{cases_eq, cases_lt}
use Rattle.std.proofs.lemmas.Nat.{bit_set_by_shift}
use Rattle.std.proofs.lemmas.Nat.Bits.{bit_at_above, shr_and_one}
use Rattle.glob_pattern.proofs.PositionLemmas.Spreading.{spread}
use Rattle.glob_pattern.proofs.BitLemmas.Digits as digits
use Rattle.glob_pattern.proofs.BitLemmas.Digits.{IsOne}

-- a bit is set where the binary digit is 1
pub IsBitSet-iff_one : (n k : ℕ) → IsBitSet n k ↔ IsOne n k
IsBitSet-iff_one n k =
    let by_shift = bit_set_by_shift n k in
    let same = shr_and_one n k in
    (λ s. sym same ∙ by_shift.1 s, λ one. by_shift.0 (same ∙ one))

-- a bit is set or not
pub IsBitSet-cases : (n k : ℕ) → IsBitSet n k ⊎ ¬ (IsBitSet n k)
IsBitSet-cases n k =
    let iff = IsBitSet-iff_one n k in
    ⊎_elim (λ e. inl (iff.1 e)) (λ ne. inr (λ s. ne (iff.0 s))) (cases_eq (bit_at n k) 1)

-- a fact about one bit, from the same fact about its digit
one_from : (P : Type 0) (n k : ℕ) → IsOne n k ↔ P → IsBitSet n k ↔ P
one_from P n k h = let iff = IsBitSet-iff_one n k in (λ s. h.0 (iff.0 s), λ p. iff.1 (h.1 p))

-- a fact about two bits, from the same fact about their digits
two_from : (m n i j : ℕ) → IsOne m i ↔ IsOne n j → IsBitSet m i ↔ IsBitSet n j
two_from m n i j h =
    let first = IsBitSet-iff_one m i in
    let second = IsBitSet-iff_one n j in
    (λ s. second.1 (h.0 (first.0 s)), λ s. first.1 (h.1 (second.0 s)))

pub IsBitSet-zero : (j : ℕ) → IsBitSet 0 j → ⊥
IsBitSet-zero j s = digits.IsOne-zero j ((IsBitSet-iff_one 0 j).0 s)

pub IsBitSet-or : (a b j : ℕ) → IsBitSet (bit_or a b) j ↔ (IsBitSet a j ⊎ IsBitSet b j)
IsBitSet-or a b j =
    let first = IsBitSet-iff_one a j in
    let second = IsBitSet-iff_one b j in
    let or = digits.IsOne-or a b j in
    one_from _ (bit_or a b) j (
      λ h. ⊎_elim (λ s. inl (first.1 s)) (λ s. inr (second.1 s)) (or.0 h),
      λ h. or.1 (⊎_elim (λ s. inl (first.0 s)) (λ s. inr (second.0 s)) h),
    )

pub IsBitSet-and : (a b j : ℕ) → IsBitSet (bit_and a b) j ↔ (IsBitSet a j × IsBitSet b j)
IsBitSet-and a b j =
    let first = IsBitSet-iff_one a j in
    let second = IsBitSet-iff_one b j in
    let and = digits.IsOne-and a b j in
    one_from _ (bit_and a b) j (λ h. let (s, t) = and.0 h in (first.1 s, second.1 t), λ (s, t). and.1 (first.0 s, second.0 t))

-- the bits of exactly one of two words
pub IsBitSet-xor : (a b j : ℕ) → IsBitSet (bit_xor a b) j ↔ ((IsBitSet a j × ¬ (IsBitSet b j)) ⊎ (¬ (IsBitSet a j) × IsBitSet b j))
IsBitSet-xor a b j =
    let first = IsBitSet-iff_one a j in
    let second = IsBitSet-iff_one b j in
    let xor = digits.IsOne-xor a b j in
    one_from _ (bit_xor a b) j (
      λ h. ⊎_elim (λ (s, none). inl (first.1 s, λ t. none (second.0 t))) (λ (none, t). inr (λ s. none (first.0 s), second.1 t)) (xor.0 h),
      λ h. xor.1 (⊎_elim (λ (s, none). inl (first.0 s, λ t. none (second.1 t))) (λ (none, t). inr (λ s. none (first.1 s), second.0 t)) h),
    )

pub IsBitSet-not : (a j : ℕ) → a < 2 ^ 64 → j < 64 → IsBitSet (bit_not w64 a) j ↔ (IsBitSet a j → ⊥)
IsBitSet-not a j fits lt =
    let here = IsBitSet-iff_one a j in
    let not = digits.IsOne-not a j fits lt in
    one_from _ (bit_not w64 a) j (λ h s. not.0 h (here.0 s), λ none. not.1 (λ s. none (here.1 s)))

-- one bit
pub IsBitSet-one : (k j : ℕ) → k < 64 → IsBitSet (1 * 2 ^ k % 2 ^ 64) j ↔ (j ≡ k)
IsBitSet-one k j lt = one_from _ (1 * 2 ^ k % 2 ^ 64) j (digits.IsOne-one k j lt)

-- one more bit
pub IsBitSet-with : (word k : ℕ) → k < 64 → (j : ℕ) → IsBitSet (bit_or word (1 * 2 ^ k % 2 ^ 64)) j ↔ (IsBitSet word j ⊎ (j ≡ k))
IsBitSet-with word k lt j =
    let or = IsBitSet-or word (1 * 2 ^ k % 2 ^ 64) j in
    let one = IsBitSet-one k j lt in
    (λ h. ⊎_elim inl (λ s. inr (one.0 s)) (or.0 h), λ h. or.1 (⊎_elim inl (λ e. inr (one.1 e)) h))

-- bits that spread over the ones of a mask, from those of a word
pub IsBitSet-spread_low : (word mask : ℕ) → IsBitSet (spread word mask 0) 0 ↔ IsBitSet word 0
IsBitSet-spread_low word mask = two_from (spread word mask 0) word 0 0 (digits.IsOne-spread_low word mask)

pub IsBitSet-spread_next : (word mask j : ℕ) → IsBitSet (spread word mask 0) (suc j) ↔ (IsBitSet word (suc j) ⊎
    (IsBitSet mask j × IsBitSet (spread word mask 0) j))
IsBitSet-spread_next word mask j =
    let next = digits.IsOne-spread_next word mask j in
    let up = IsBitSet-iff_one word (suc j) in
    let masked = IsBitSet-iff_one mask j in
    let here = IsBitSet-iff_one (spread word mask 0) j in
    one_from _ (spread word mask 0) (suc j) (
      λ h. ⊎_elim (λ s. inl (up.1 s)) (λ (s, t). inr (masked.1 s, here.1 t)) (next.0 h),
      λ h. next.1 (⊎_elim (λ s. inl (up.0 s)) (λ (s, t). inr (masked.0 s, here.0 t)) h),
    )

-- the lowest bit of a word shifted up by one
pub IsBitSet-moved_low : (a : ℕ) (low : Bool) → IsBitSet (bit_or (a * 2 ^ 1 % 2 ^ 64) (bool_byte low)) 0 ↔ IsTrue low
IsBitSet-moved_low a low = one_from _ (bit_or (a * 2 ^ 1 % 2 ^ 64) (bool_byte low)) 0 (digits.IsOne-moved_low a low)

-- its other bits
pub IsBitSet-moved_next : (a : ℕ) (low : Bool) (j : ℕ) → suc j < 64 → IsBitSet (bit_or (a * 2 ^ 1 % 2 ^ 64)
    (bool_byte low)) (suc j) ↔ IsBitSet a j
IsBitSet-moved_next a low j lt = two_from (bit_or (a * 2 ^ 1 % 2 ^ 64) (bool_byte low)) a (suc j) j (digits.IsOne-moved_next a low j lt)

-- if no two ones of the mask are neighbours
pub IsBitSet-flat : (word mask : ℕ) → ((j : ℕ) → IsBitSet mask j → ¬ (IsBitSet mask (suc j))) → (j : ℕ) → j < 64
    → IsBitSet (bit_or word (bit_and word mask * 2 ^ 1 % 2 ^ 64)) j ↔ IsBitSet (spread word mask 0) j
IsBitSet-flat word mask apart j lt =
    two_from (bit_or word (bit_and word mask * 2 ^ 1 % 2 ^ 64)) (spread word mask 0) j j
    (digits.IsOne-flat word mask (λ i m n. apart i ((IsBitSet-iff_one mask i).1 m) ((IsBitSet-iff_one mask (suc i)).1 n)) j lt)

-- the bits that spread within a word
pub IsBitSet-closed : (word mask j : ℕ) → j < 64 → IsBitSet (bit_or word (bit_xor ((bit_and word mask + mask) % 2 ^ 64)
    mask)) j ↔ IsBitSet (spread word mask 0) j
IsBitSet-closed word mask j lt = two_from (bit_or word (bit_xor ((bit_and word mask + mask) % 2 ^ 64) mask))
    (spread word mask 0) j j (digits.IsOne-closed word mask j lt)

-- a word shifted down by 63 is its highest bit
pub highest_set : (a : ℕ) → a < 2 ^ 64 → (a / 2 ^ 63 ≢ 0) ↔ IsBitSet a 63
highest_set a fits =
    let high = digits.highest_set a fits in
    let last = IsBitSet-iff_one a 63 in
    (λ ne. last.1 (high.0 ne), λ s. high.1 (last.0 s))

-- the test of a bit
pub IsBitSet-test : (a j : ℕ) → IsTrue (not (nat_eq (bit_and (a / 2 ^ j) 1) 0)) ↔ IsBitSet a j
IsBitSet-test a j =
    let test = digits.IsOne-test a j in
    let here = IsBitSet-iff_one a j in
    (λ t. here.1 (test.0 t), λ s. test.1 (here.0 s))

-- the bits of one word that another does not have
pub IsBitSet-without : (a b j : ℕ) → b < 2 ^ 64 → j < 64 → IsBitSet (bit_and a (bit_not w64 b)) j ↔ (IsBitSet a j × (IsBitSet b j → ⊥))
IsBitSet-without a b j fits lt =
    let both = IsBitSet-and a (bit_not w64 b) j in
    let none = IsBitSet-not b j fits lt in
    (λ s. ((both.0 s).0, none.0 (both.0 s).1), λ (s, n). both.1 (s, none.1 n))

-- a bit that is set has a number below 64
pub bit_below : (word j : ℕ) → word < 2 ^ 64 → IsBitSet word j → j < 64
bit_below word j fits set =
    let one = (IsBitSet-iff_one word j).0 set in
    ⊎_elim (λ lt. lt) (λ le. let none = bit_at_above word 64 j fits le in absurd (omega (arith, one, none))) (cases_lt j 64)

-- no two bits of a mask are neighbours if it shares no bit with itself shifted up by one
pub IsBitSet-apart : (mask : ℕ) → mask < 2 ^ 64 → bit_and mask (mask * 2 ^ 1 % 2 ^ 64) ≡ 0 → (j : ℕ) → IsBitSet mask j
    → ¬ (IsBitSet mask (suc j))
IsBitSet-apart mask fits none j set next =
    let moved = two_from (mask * 2 ^ 1 % 2 ^ 64) mask (suc j) j (digits.IsOne-moved mask j (bit_below mask (suc j) fits next)) in
    IsBitSet-zero (suc j) (rw none at ((IsBitSet-and mask (mask * 2 ^ 1 % 2 ^ 64) (suc j)).1 (next, moved.1 set)))
