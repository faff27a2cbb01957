-- The bits of neighbouring bytes of a text.
use Rattle.std.proofs.Common.{◌≡◌, ℕ, zero, suc, ◌+◌, ◌<◌, List, [], ◌∷◌, ◌++◌, length, get_or, drop, drop-cons, max}
use Rattle.std.proofs.Common.{bit_or, refl, sym, ap, subst, ◌∙◌, arith, add-one}
use Rattle.std.specs.Int.{bit_at}
use Rattle.std.specs.Int.Bits.{or_self, or_zero_l}
use Rattle.std.proofs.lemmas.Nat.{or_comm}
use Rattle.std.proofs.lemmas.Nat.Bits.{bit_at_or, same_from_bits}
use Rattle.glob_set.specs.Private.Pairs.{pair_class, class_bit, pair_bits, last_class}

max_assoc : (x y z : ℕ) → max (max x y) z ≡ max x (max y z)
max_assoc x y z = omega arith

pub or_assoc : (a b c : ℕ) → bit_or (bit_or a b) c ≡ bit_or a (bit_or b c)
or_assoc a b c = same_from_bits _ _ (λ i.
    bit_at_or (bit_or a b) c i ∙ ap (λ x. max x (bit_at c i)) (bit_at_or a b i)
    ∙ max_assoc (bit_at a i) (bit_at b i) (bit_at c i)
    ∙ sym (bit_at_or a (bit_or b c) i ∙ ap (λ x. max (bit_at a i) x) (bit_at_or b c i)))

-- the bits of a are among those of b
abbrev pub Within : ℕ → ℕ → Type 0
Within a b = bit_or a b ≡ b

pub within_zero : (b : ℕ) → Within 0 b
within_zero b = or_zero_l b

pub within_left : (a b c : ℕ) → Within a b → Within a (bit_or b c)
within_left a b c h = sym (or_assoc a b c) ∙ ap (λ x. bit_or x c) h

pub within_right : (a b c : ℕ) → Within a c → Within a (bit_or b c)
within_right a b c h = ap (bit_or a) (or_comm b c) ∙ within_left a c b h ∙ or_comm c b

pub within_both : (a b c : ℕ) → Within a c → Within b c → Within (bit_or a b) c
within_both a b c h i = or_assoc a b c ∙ ap (bit_or a) i ∙ h

-- the first byte of a text
pub first_within : (before x : ℕ) (after : List ℕ) → Within (class_bit (pair_class before x)) (pair_bits before (x ∷ after))
first_within before x after = within_left (class_bit (pair_class before x)) (class_bit (pair_class before x))
    (pair_bits x after) (or_self _)

-- two neighbours somewhere in it
pub pair_within : (before : ℕ) (front : List ℕ) (x y : ℕ) (after : List ℕ) → Within (class_bit (pair_class x y))
    (pair_bits before (front ++ (x ∷ y ∷ after)))
pair_within before [] x y after = within_right (class_bit (pair_class x y)) (class_bit (pair_class before x))
    (pair_bits x (y ∷ after)) (first_within x y after)
pair_within before (z ∷ zs) x y after =
    within_right (class_bit (pair_class x y)) (class_bit (pair_class before z)) (pair_bits z (zs ++ (x ∷ y ∷ after)))
    (pair_within z zs x y after)

-- the last two
pub class_of_last : (class before : ℕ) (front : List ℕ) (x y : ℕ) → last_class class before (front ++ (x ∷ y ∷ [])) ≡ pair_class x y
class_of_last class before [] x y = refl
class_of_last class before (z ∷ zs) x y = class_of_last (pair_class before z) z zs x y

-- what is left is the next one and the others
drop_next : (xs : List ℕ) (i : ℕ) → i < length xs → drop i xs ≡ get_or xs i 0 ∷ drop (i + 1) xs
drop_next xs i below = drop-cons xs i 0 below ∙ ap (λ k. get_or xs i 0 ∷ drop k xs) (sym (add-one i))

-- one more byte is read
pub step_bits : (bits last next : ℕ) (bytes : List ℕ) (i : ℕ) → i < length bytes → next ≡ get_or bytes i 0
    → bit_or (bit_or bits (class_bit (pair_class last next))) (pair_bits next (drop (i + 1) bytes)) ≡ bit_or bits
    (pair_bits last (drop i bytes))
step_bits bits last next bytes i below is =
    or_assoc bits (class_bit (pair_class last next)) (pair_bits next (drop (i + 1) bytes))
    ∙ ap (λ b. bit_or bits (bit_or (class_bit (pair_class last b)) (pair_bits b (drop (i + 1) bytes)))) is
    ∙ ap (λ bs. bit_or bits (pair_bits last bs)) (sym (drop_next bytes i below))

-- the last two bytes, by their places
pub class_at_end : (class before : ℕ) (bytes : List ℕ) (n : ℕ) → length bytes ≡ n + 2
    → last_class class before bytes ≡ pair_class (get_or bytes n 0) (get_or bytes (n + 1) 0)
class_at_end class before [] n is = absurd (omega (arith, is))
class_at_end class before (x ∷ []) n is = absurd (omega (arith, is))
class_at_end class before (x ∷ y ∷ []) n is =
    let e : n ≡ 0 = omega (arith, is) in
    subst (λ k. pair_class x y ≡ pair_class (get_or (x ∷ y ∷ []) k 0) (get_or (x ∷ y ∷ []) (k + 1) 0)) (sym e) refl
class_at_end class before (x ∷ y ∷ z ∷ zs) zero is = absurd (omega (arith, is))
class_at_end class before (x ∷ y ∷ z ∷ zs) (suc n) is =
    let e : suc (n + 1) ≡ suc n + 1 = omega arith in
    class_at_end (pair_class before x) x (y ∷ z ∷ zs) n (omega (arith, is))
    ∙ ap (λ k. pair_class (get_or (y ∷ z ∷ zs) n 0) (get_or (x ∷ y ∷ z ∷ zs) k 0)) e
