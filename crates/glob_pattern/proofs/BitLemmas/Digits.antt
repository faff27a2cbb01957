-- The binary digits of a word after bitwise operations and shifts.
use Rattle.std.proofs.Common.{◌≡◌, ℕ, zero, suc, ◌+◌, ◌-◌, ◌*◌, ◌/◌, ◌%◌, ◌^◌, ◌<◌, ◌≢◌, ◌⊎◌, ◌↔◌, min, max, Bool, true}
use Rattle.std.proofs.Common.{false, not, nat_eq, IsTrue, bit_and, bit_or, bit_xor, refl, sym, ap, ◌∙◌, inl, inr}
use Rattle.std.proofs.Common.{⊎_elim, arith, add-zero}
use Rattle.std.specs.Int.{bit_at, bit_not, w64}
use mir.Val.{bool_byte}
use Rattle.std.proofs.lemmas.Bool.{cases_eq, false≢true, eqb-false, ne_eqb, not-true}
use Rattle.std.proofs.lemmas.Nat.{one_shl, shr_split}
use Rattle.std.proofs.lemmas.Nat.Bits.{bit_at-zero, bit_at_and, bit_at_or, bit_at_xor, bit_at_not, bit_at-lt}
use Rattle.std.proofs.lemmas.Nat.Bits.{bit_at-pow_same, bit_at-pow_other, bit_at_cat_low, bit_at_lowest, bit_at-suc}
use Rattle.std.proofs.lemmas.Nat.Bits.{shr_and_one}
use Rattle.glob_pattern.proofs.PositionLemmas.Spreading.{spread, spread-low, spread-next}

-- digit j of the word is 1
abbrev pub IsOne : (word j : ℕ) → Type 0
IsOne word j = bit_at word j ≡ 1

-- `or` of two bits is the greater one
max_set : (x y : ℕ) → x < 2 → y < 2 → (max x y ≡ 1) ↔ ((x ≡ 1) ⊎ (y ≡ 1))
max_set x y p q = (
  λ h. ⊎_elim inl (λ ne. inr (omega arith)) (cases_eq x 1),
  λ h. ⊎_elim (λ e. omega arith) (λ e. omega arith) h,
)

-- `and` of two bits is the lesser one
min_set : (x y : ℕ) → x < 2 → y < 2 → (min x y ≡ 1) ↔ ((x ≡ 1) × (y ≡ 1))
min_set x y p q = (λ h. (omega arith, omega arith), λ (e, f). omega arith)

-- `xor` of two bits
one_set : (x y : ℕ) → x < 2 → y < 2 → ((x + y) % 2 ≡ 1) ↔ (((x ≡ 1) × ¬ (y ≡ 1)) ⊎ (¬ (x ≡ 1) × (y ≡ 1)))
one_set x y p q = (
  λ h. ⊎_elim (λ e. inl (e, λ f. omega arith)) (λ ne. inr (ne, omega arith)) (cases_eq x 1),
  λ h. ⊎_elim (λ (e, ne). omega arith) (λ (ne, e). omega arith) h,
)

pub IsOne-zero : (j : ℕ) → IsOne 0 j → ⊥
IsOne-zero j h = let none = bit_at-zero j in omega arith

pub IsOne-or : (a b j : ℕ) → IsOne (bit_or a b) j ↔ (IsOne a j ⊎ IsOne b j)
IsOne-or a b j = rw bit_at_or (max_set (bit_at a j) (bit_at b j) (bit_at-lt a j) (bit_at-lt b j))

pub IsOne-and : (a b j : ℕ) → IsOne (bit_and a b) j ↔ (IsOne a j × IsOne b j)
IsOne-and a b j = rw bit_at_and (min_set (bit_at a j) (bit_at b j) (bit_at-lt a j) (bit_at-lt b j))

pub IsOne-xor : (a b j : ℕ) → IsOne (bit_xor a b) j ↔ ((IsOne a j × ¬ (IsOne b j)) ⊎ (¬ (IsOne a j) × IsOne b j))
IsOne-xor a b j = rw bit_at_xor (one_set (bit_at a j) (bit_at b j) (bit_at-lt a j) (bit_at-lt b j))

pub IsOne-not : (a j : ℕ) → a < 2 ^ 64 → j < 64 → IsOne (bit_not w64 a) j ↔ (IsOne a j → ⊥)
IsOne-not a j fits lt =
    let at : bit_at (bit_not w64 a) j ≡ 1 - bit_at a j = bit_at_not w64 a j fits lt in
    let low = bit_at-lt a j in
    (λ h s. omega arith, λ none. ⊎_elim (λ e. absurd (none e)) (λ ne. omega arith) (cases_eq (bit_at a j) 1))

-- the bits of a word of 64 are those of the number
bit_at-word : (n j : ℕ) → j < 64 → bit_at (n % 2 ^ 64) j ≡ bit_at n j
bit_at-word n j lt = sym (bit_at_cat_low (n / 2 ^ 64) 64 (n % 2 ^ 64) j lt) ∙ ap (λ x. bit_at x j) (shr_split n 64)

-- one bit
pub IsOne-one : (k j : ℕ) → k < 64 → IsOne (1 * 2 ^ k % 2 ^ 64) j ↔ (j ≡ k)
IsOne-one k j lt =
    let one : 1 * 2 ^ k % 2 ^ 64 ≡ 2 ^ k = one_shl k 64 lt in
    rw one (
      λ h. ⊎_elim (λ e. e) (λ ne. let other = bit_at-pow_other k j ne in absurd (omega arith)) (cases_eq j k),
      λ e. rw e (bit_at-pow_same k),
    )

-- bits that spread over the ones of a mask, from those of a word
pub IsOne-spread_low : (word mask : ℕ) → IsOne (spread word mask 0) 0 ↔ IsOne word 0
IsOne-spread_low word mask =
    let low = spread-low word mask 0 (omega arith) in
    let first = bit_at-lt word 0 in
    (λ h. omega arith, λ h. omega arith)

pub IsOne-spread_next : (word mask j : ℕ) → IsOne (spread word mask 0) (suc j) ↔ (IsOne word (suc j) ⊎
    (IsOne mask j × IsOne (spread word mask 0) j))
IsOne-spread_next word mask j =
    let next = spread-next j word mask 0 (omega arith) in
    let both = min_set (bit_at mask j) (bit_at (spread word mask 0) j) (bit_at-lt mask j) (bit_at-lt (spread word mask 0) j) in
    let one = max_set (bit_at word (suc j)) (min (bit_at mask j) (bit_at (spread word mask 0) j)) (bit_at-lt word
    (suc j)) (let a = bit_at-lt mask j in omega arith) in
    rw next (λ h. ⊎_elim inl (λ s. inr (both.0 s)) (one.0 h), λ h. one.1 (⊎_elim inl (λ s. inr (both.1 s)) h))

-- a word shifted up by one
bit_at-moved_low : (a : ℕ) → bit_at (a * 2 ^ 1 % 2 ^ 64) 0 ≡ 0
bit_at-moved_low a = bit_at_lowest (a * 2 ^ 1 % 2 ^ 64) ∙ omega arith

bit_at-moved_next : (a j : ℕ) → suc j < 64 → bit_at (a * 2 ^ 1 % 2 ^ 64) (suc j) ≡ bit_at a j
bit_at-moved_next a j lt =
    let half : a * 2 ^ 1 / 2 ≡ a = omega arith in
    bit_at-word (a * 2 ^ 1) (suc j) lt ∙ bit_at-suc (a * 2 ^ 1) j ∙ ap (λ x. bit_at x j) half

pub IsOne-moved : (a j : ℕ) → suc j < 64 → IsOne (a * 2 ^ 1 % 2 ^ 64) (suc j) ↔ IsOne a j
IsOne-moved a j lt = let up = bit_at-moved_next a j lt in (λ h. sym up ∙ h, λ h. up ∙ h)

-- its lowest bit, if one is added
pub IsOne-moved_low : (a : ℕ) (low : Bool) → IsOne (bit_or (a * 2 ^ 1 % 2 ^ 64) (bool_byte low)) 0 ↔ IsTrue low
IsOne-moved_low a low =
    let or = IsOne-or (a * 2 ^ 1 % 2 ^ 64) (bool_byte low) 0 in
    let even = bit_at-moved_low a in
    (λ h. ⊎_elim (λ s. absurd (omega arith)) (low_set low) (or.0 h), λ t. or.1 (inr (set_low low t)))
  where
    low_set : (b : Bool) → IsOne (bool_byte b) 0 → IsTrue b
    low_set true h = refl
    low_set false h = absurd (IsOne-zero 0 h)

    set_low : (b : Bool) → IsTrue b → IsOne (bool_byte b) 0
    set_low true t = refl
    set_low false t = absurd (false≢true t)

-- its other bits
pub IsOne-moved_next : (a : ℕ) (low : Bool) (j : ℕ) → suc j < 64 → IsOne (bit_or (a * 2 ^ 1 % 2 ^ 64) (bool_byte low)) (suc j) ↔ IsOne a j
IsOne-moved_next a low j lt =
    let or = IsOne-or (a * 2 ^ 1 % 2 ^ 64) (bool_byte low) (suc j) in
    let up = bit_at-moved_next a j lt in
    (λ h. ⊎_elim (λ s. omega arith) (λ s. absurd (only_low low s)) (or.0 h), λ s. or.1 (inl (omega arith)))
  where
    only_low : (b : Bool) → IsOne (bool_byte b) (suc j) → ⊥
    only_low true s = IsOne-zero j (sym (bit_at-suc 1 j) ∙ s)
    only_low false s = IsOne-zero (suc j) s

-- If no two ones of a mask are neighbours, each bit spreads over at most one of them, as if shifted up by one.
module _ (word mask : ℕ) (apart : (j : ℕ) → IsOne mask j → IsOne mask (suc j) → ⊥) where
  spread_from : (j : ℕ) → IsOne mask j → IsOne (spread word mask 0) j → IsOne word j
  spread_from zero m s = (IsOne-spread_low word mask).0 s
  spread_from (suc j) m s = ⊎_elim (λ w. w) (λ (below, t). absurd (apart j below m)) ((IsOne-spread_next word mask j).0 s)

  pub IsOne-flat : (j : ℕ) → j < 64 → IsOne (bit_or word (bit_and word mask * 2 ^ 1 % 2 ^ 64)) j ↔ IsOne (spread word mask 0) j
  IsOne-flat zero lt =
      let or = IsOne-or word (bit_and word mask * 2 ^ 1 % 2 ^ 64) 0 in
      let none = bit_at-moved_low (bit_and word mask) in
      let low = IsOne-spread_low word mask in
      (λ h. ⊎_elim (λ w. low.1 w) (λ m. absurd (omega (arith, m, none))) (or.0 h), λ s. or.1 (inl (low.0 s)))
  IsOne-flat (suc j) lt =
      let or = IsOne-or word (bit_and word mask * 2 ^ 1 % 2 ^ 64) (suc j) in
      let moved = IsOne-moved (bit_and word mask) j lt in
      let and = IsOne-and word mask j in
      let next = IsOne-spread_next word mask j in
      let kept = IsOne-or word (bit_xor (bit_and word mask + mask + 0) mask) j in (
        λ h. next.1 (⊎_elim inl (λ m. let (w, t) = and.0 (moved.0 m) in inr (t, kept.1 (inl w))) (or.0 h)),
        λ s. or.1 (⊎_elim inl (λ (m, t). inr (moved.1 (and.1 (spread_from j m t, m)))) (next.0 s)),
      )

-- the bits that spread within a word
pub IsOne-closed : (word mask j : ℕ) → j < 64 → IsOne (bit_or word (bit_xor ((bit_and word mask + mask) % 2 ^ 64)
    mask)) j ↔ IsOne (spread word mask 0) j
IsOne-closed word mask j lt =
    let sum : bit_at ((bit_and word mask + mask) % 2 ^ 64) j ≡ bit_at (bit_and word mask + mask + 0) j = bit_at-word
    (bit_and word mask + mask) j lt ∙ ap (λ x. bit_at x j) (sym (add-zero (bit_and word mask + mask))) in
    let same : bit_at (bit_or word (bit_xor ((bit_and word mask + mask) % 2 ^ 64) mask)) j ≡ bit_at (spread word mask 0) j =
    bit_at_or word _ j ∙ ap (max (bit_at word j)) (bit_at_xor _ mask j ∙ ap (λ x. (x + bit_at mask j) % 2) sum ∙ sym
    (bit_at_xor _ mask j)) ∙ sym (bit_at_or word _ j) in
    (λ h. sym same ∙ h, λ h. same ∙ h)

-- a word shifted down by 63 is its highest bit
pub highest_set : (a : ℕ) → a < 2 ^ 64 → (a / 2 ^ 63 ≢ 0) ↔ IsOne a 63
highest_set a fits = (λ ne. omega arith, λ s e. omega arith)

-- the test of a bit
pub IsOne-test : (a j : ℕ) → IsTrue (not (nat_eq (bit_and (a / 2 ^ j) 1) 0)) ↔ IsOne a j
IsOne-test a j =
    let low : bit_and (a / 2 ^ j) 1 ≡ bit_at a j = shr_and_one a j in
    let lt = bit_at-lt a j in (
      λ t. let ne = eqb-false (bit_and (a / 2 ^ j) 1) 0 (not-true _ t) in ⊎_elim (λ e. e) (λ other. absurd
          (ne (omega arith))) (cases_eq (bit_at a j) 1),
      λ s. ap not (ne_eqb (bit_and (a / 2 ^ j) 1) 0 (λ e. omega arith)),
    )
