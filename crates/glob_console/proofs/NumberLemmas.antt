-- The number that decimal digits denote, as `parse` reads it.
use Rattle.std.proofs.Common.{◌≡◌, ℕ, ◌^◌, ◌<◌, ◌≤◌, ◌&&◌, Bool, true, false, List, [], ◌∷◌, Some, Result, Ok, Err}
use Rattle.std.proofs.Common.{length, refl, sym, ap, subst, ◌∙◌, arith}
use Rattle.std.specs.Prelude.{◌==◌}
use Rattle.std.specs.Char.{is_ascii_digit}
use Rattle.std.specs.List.{list_all}
use Rattle.std.specs.Result.{result_ok}
use Rattle.std.specs.Str.Parse.{AllDigits, IsNumeral, ParsesUnsigned, digits_value, without_leading_plus}
use Rattle.std.proofs.lemmas.Bool.{false≢true, ltb-true, leb-true, lt-ltb, le-leb, ne_eqb, false_from_ne_true}
use Rattle.std.proofs.lemmas.Str.{digit_value_digit}
use Rattle.glob_console.specs.Words.{is_limit, limit_of}

both : (a b : Bool) → (a && b) ≡ true → (a ≡ true) × (b ≡ true)
both true b e = (refl, e)
both false b e = absurd (false≢true e)

-- a decimal digit is one of 48 to 57
in_range : (c : ℕ) → is_ascii_digit c ≡ true → (48 ≤ c) × (c ≤ 57)
in_range c e = let (low, high) = both _ _ e in (leb-true 48 c low, leb-true c 57 high)

AllDigits-from_list_all : (word : List ℕ) → list_all is_ascii_digit word ≡ true → AllDigits 10 word
AllDigits-from_list_all [] e = tt
AllDigits-from_list_all (c ∷ cs) e =
    let (first, others) = both _ _ e in
    let (low, high) = in_range c first in
    (omega (arith, digit_value_digit c (low, high), high), AllDigits-from_list_all cs others)

-- digits have no sign before them
no_plus : (word : List ℕ) → list_all is_ascii_digit word ≡ true → without_leading_plus word ≡ word
no_plus [] e = refl
no_plus (c ∷ cs) e =
    let (low, high) = in_range c (both _ _ e).0 in
    let other : (c == 43) ≡ false = ne_eqb c 43 (λ same. omega (arith, same, low)) in
    rw other refl

is_limit-from : (word : List ℕ) → 0 < length word → length word ≤ 20 → list_all is_ascii_digit word ≡ true
    → digits_value 10 word < 2 ^ 64 → is_limit word ≡ true
is_limit-from word some short digits fits =
    rw (lt-ltb 0 (length word) some) (rw (le-leb (length word) 20 short) (rw digits (lt-ltb (digits_value 10 word) (2 ^ 64) fits)))

is_limit-numeral : (word : List ℕ) → is_limit word ≡ true → (0 < length word) × (digits_value 10 word < 2 ^ 64)
is_limit-numeral word e =
    let (some, others) = both _ _ e in
    (ltb-true 0 (length word) some, ltb-true (digits_value 10 word) (2 ^ 64) (both _ _ (both _ _ others).1).1)

-- for at most twenty digits, `parse` gives the limit
pub result_ok-limit : {E : Type 0} (r : Result ℕ E) (word : List ℕ) → length word ≤ 20 → list_all is_ascii_digit word ≡
    true → ParsesUnsigned 64 10 word r
    → result_ok r ≡ limit_of word
result_ok-limit (Ok n) word short digits ((numeral, fits), is) =
    let plain = no_plus word digits in
    let value : n ≡ digits_value 10 word = is ∙ ap (digits_value 10) plain in
    let some : 0 < length word = subst (λ l. 0 < length l) plain numeral.0 in
    let below : digits_value 10 word < 2 ^ 64 = subst (λ l. digits_value 10 l < 2 ^ 64) plain fits in
    rw (is_limit-from word some short digits below) (ap Some value)
result_ok-limit (Err e) word short digits not =
    let plain = no_plus word digits in
    let no : is_limit word ≡ false = false_from_ne_true (is_limit word) (λ yes.
    not (subst (λ l. IsNumeral 10 l × (digits_value 10 l < 2 ^ 64)) (sym plain)
    (((is_limit-numeral word yes).0, AllDigits-from_list_all word digits), (is_limit-numeral word yes).1))) in
    rw no refl
