-- Numbers of characters and of questions stay within machine integers.
use Rattle.std.proofs.Common.{◌≡◌, ℕ, zero, suc, ◌+◌, ◌-◌, ◌*◌, ◌^◌, ◌<◌, ◌≤◌, List, [], ◌∷◌, length, arith}
use Rattle.std.proofs.Math.Nat.{mul-suc}
use Rattle.std.specs.Str.{chars_after, continuation_len, lead_bits}
use Rattle.std.specs.Str as str
use Rattle.std.proofs.lemmas.Nat.{mul-lt}

length-chars_after : (n c : ℕ) (bs : List ℕ) → length (chars_after n c bs) ≤ length bs + 1
length-chars_after zero c [] = omega arith
length-chars_after zero c (b ∷ bs) = omega (arith, length-chars_after (continuation_len b) (lead_bits b) bs)
length-chars_after (suc n) c [] = omega arith
length-chars_after (suc n) c (b ∷ bs) = omega (arith, length-chars_after n (c * 64 + (b - 128)) bs)

-- a text has no more characters than bytes
pub length-chars : (bs : List ℕ) → length (str.chars bs) ≤ length bs
unfolding str.chars
length-chars [] = omega arith
length-chars (b ∷ bs) = omega (arith, length-chars_after (continuation_len b) (lead_bits b) bs)

-- the product of two 64-bit counts fits in 128 bits
pub product_fits : (m n : ℕ) → m < 2 ^ 64 → n < 2 ^ 64 → m * n < 2 ^ 128
product_fits m n below_m below_n = mul-lt m n (2 ^ 64) (2 ^ 64) below_m below_n

-- the room for questions shrinks by one character's questions
pub mul-left : (n characters place : ℕ) → place + 1 ≤ characters → n * (characters - place) ≡ n * (characters - (place + 1)) + n
mul-left n characters place le =
    let next : characters - place ≡ suc (characters - (place + 1)) = omega arith in
    rw next (mul-suc n (characters - (place + 1)))

-- after the questions about a character there is room for those about the characters left
pub room-after : (n characters place asked before after : ℕ) → 0 < place → place ≤ characters → asked ≤ n → after ≡ before + asked
    → after + n * (characters - place) ≤ before + n * (characters - (place - 1))
room-after n characters place asked before after later within few count =
    let room = mul-left n characters (place - 1) (omega arith) in
    let next : place - 1 + 1 ≡ place = omega arith in
    omega (arith, rw next at room)
