-- The carry of a sum spreads bits over the ones of a mask.
use Rattle.std.proofs.Common.{◌≡◌, ℕ, zero, suc, ◌+◌, ◌/◌, ◌%◌, ◌≤◌, min, max, bit_and, bit_or, bit_xor, sym, ap, ◌∙◌, arith}
use Rattle.std.specs.Int.{bit_at}
use Rattle.std.proofs.lemmas.Nat.Bits.{bit_at_lowest, bit_at-suc, bit_at_and, bit_at_or, bit_at_xor, same_from_bits}

-- the bits of a word and a carry, each passed on to the next place while the mask has a one
abbrev pub spread : (word mask carry : ℕ) → ℕ
spread word mask carry = bit_or word (bit_xor (bit_and word mask + mask + carry) mask)

pub half_and : (a b : ℕ) → bit_and a b / 2 ≡ bit_and (a / 2) (b / 2)
half_and a b = same_from_bits _ _ (λ i. sym (bit_at-suc (bit_and a b) i) ∙ bit_at_and a b (suc i) ∙ ap
    (λ x. min x (bit_at b (suc i))) (bit_at-suc a i) ∙ ap (min (bit_at (a / 2) i)) (bit_at-suc b i) ∙ sym
    (bit_at_and (a / 2) (b / 2) i))

half_or : (a b : ℕ) → bit_or a b / 2 ≡ bit_or (a / 2) (b / 2)
half_or a b = same_from_bits _ _ (λ i. sym (bit_at-suc (bit_or a b) i) ∙ bit_at_or a b (suc i) ∙ ap
    (λ x. max x (bit_at b (suc i))) (bit_at-suc a i) ∙ ap (max (bit_at (a / 2) i)) (bit_at-suc b i) ∙ sym
    (bit_at_or (a / 2) (b / 2) i))

half_xor : (a b : ℕ) → bit_xor a b / 2 ≡ bit_xor (a / 2) (b / 2)
half_xor a b = same_from_bits _ _ (λ i. sym (bit_at-suc (bit_xor a b) i) ∙ bit_at_xor a b (suc i) ∙ ap
    (λ x. (x + bit_at b (suc i)) % 2) (bit_at-suc a i) ∙ ap (λ x. (bit_at (a / 2) i + x) % 2) (bit_at-suc b i) ∙ sym
    (bit_at_xor (a / 2) (b / 2) i))

-- the carry past the lowest bit
abbrev carry_more : (word mask carry : ℕ) → ℕ
carry_more word mask carry = min (mask % 2) (max (word % 2) carry)

pub low_and : (a b : ℕ) → bit_and a b % 2 ≡ min (a % 2) (b % 2)
low_and a b = sym (bit_at_lowest (bit_and a b)) ∙ bit_at_and a b 0 ∙ ap (λ x. min x (bit_at b 0)) (bit_at_lowest a)
    ∙ ap (min (a % 2)) (bit_at_lowest b)

half_sum : (word mask carry : ℕ) → carry ≤ 1 → (bit_and word mask + mask + carry) / 2 ≡ bit_and (word / 2)
    (mask / 2) + mask / 2 + carry_more word mask carry
half_sum word mask carry le =
    let low = low_and word mask in
    let half = half_and word mask in
    omega arith

spread-half : (word mask carry : ℕ) → carry ≤ 1 → spread word mask carry / 2 ≡ spread (word / 2) (mask / 2) (carry_more word mask carry)
spread-half word mask carry le =
    half_or word _ ∙ ap (bit_or (word / 2)) (half_xor _ mask ∙ ap (λ x. bit_xor x (mask / 2)) (half_sum word mask carry le))

pub spread-low : (word mask carry : ℕ) → carry ≤ 1 → bit_at (spread word mask carry) 0 ≡ max (word % 2) carry
spread-low word mask carry le =
    let low = low_and word mask in
    let sum : bit_at (bit_and word mask + mask + carry) 0 ≡ (bit_and word mask + mask + carry) % 2 = bit_at_lowest _ in
    let w = bit_at_lowest word in
    let m = bit_at_lowest mask in
    let or = bit_at_or word (bit_xor (bit_and word mask + mask + carry) mask) 0 in
    let xor = bit_at_xor (bit_and word mask + mask + carry) mask 0 in
    omega arith

-- each bit is set in the word, or passed on from the place below by a one of the mask
pub spread-next : (i word mask carry : ℕ) → carry ≤ 1 → bit_at (spread word mask carry) (suc i) ≡ max
    (bit_at word (suc i)) (min (bit_at mask i) (bit_at (spread word mask carry) i))
spread-next zero word mask carry le =
    let up : bit_at (spread word mask carry) 1 ≡ bit_at (spread (word / 2) (mask / 2) (carry_more word mask carry)) 0 =
    bit_at-suc (spread word mask carry) 0 ∙ ap (λ x. bit_at x 0) (spread-half word mask carry le) in
    let low = spread-low word mask carry le in
    let next = spread-low (word / 2) (mask / 2) (carry_more word mask carry) (omega arith) in
    let w : bit_at word 1 ≡ word / 2 % 2 = bit_at-suc word 0 ∙ bit_at_lowest (word / 2) in
    rw (w, bit_at_lowest mask, low) (up ∙ next)
spread-next (suc i) word mask carry le =
    let up : (j : ℕ) → bit_at (spread word mask carry) (suc j) ≡ bit_at (spread (word / 2) (mask / 2)
    (carry_more word mask carry)) j = λ j. bit_at-suc (spread word mask carry) j ∙ ap (λ x. bit_at x j)
    (spread-half word mask carry le) in
    let ih = spread-next i (word / 2) (mask / 2) (carry_more word mask carry) (omega arith) in
    rw (up i, bit_at-suc word (suc i), bit_at-suc mask i) (up (suc i) ∙ ih)
