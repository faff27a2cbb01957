-- Where rows of masks are in their list: one after another, two per word.
use Rattle.std.proofs.Common.{◌≡◌, ℕ, ◌+◌, ◌*◌, ◌<◌, ◌≤◌, Bool, true, false, List, ◌++◌, length, get_or}
use Rattle.std.proofs.Common.{take, drop, ap, ◌∙◌, ⊎_elim, arith, append-nil, min, sym}
use Rattle.std.proofs.lemmas.Bool.{cases_lt}
use Rattle.std.proofs.lemmas.List.{get_or-take, get_or-drop, get_or_past, length-take, take_all, drop_all}
use Rattle.std.proofs.Math.Nat.{mul-le-mul_right}
use Rattle.glob_pattern.specs.Private.CharMasks.{half_of}

-- a row ends where the next begins
pub row-within : (n rows columns : ℕ) → n < rows → n * columns + columns ≤ rows * columns
row-within n rows columns lt = let up : (n + 1) * columns ≤ rows * columns = mul-le-mul_right columns
    (omega (arith, lt)) in omega (arith, up)

-- a part of a list that is zero from some place on is zero
pub part-zero : (a k : ℕ) (xs : List ℕ) → ((r : ℕ) → a ≤ r → get_or xs r 0 ≡ 0) → (r : ℕ) → get_or (take k (drop a xs)) r 0 ≡ 0
part-zero a k xs zero r =
    ⊎_elim
    (λ lt. get_or-take k (drop a xs) r 0 lt ∙ get_or-drop a xs r 0 ∙ zero (a + r) (omega arith))
    (λ le. get_or_past (take k (drop a xs)) r 0 (omega (arith, le, length-take k (drop a xs))))
    (cases_lt r k)

-- a list written over a whole list replaces it
pub written : (n : ℕ) (xs ys : List ℕ) → length ys ≤ length xs → length xs ≤ n → take n (xs ++ drop (length xs) ys) ≡ xs
written n xs ys covers all = ap (λ rest. take n (xs ++ rest)) (drop_all (length xs) ys covers) ∙ ap (take n)
    (append-nil xs) ∙ take_all n xs all

-- a word has two rows
pub half-few : (case : Bool) → half_of case < 2
half-few true = omega arith
half-few false = omega arith

-- dropping more than there is leaves nothing
pub drop-min : (n : ℕ) (xs : List ℕ) → drop (min n (length xs)) xs ≡ drop n xs
drop-min n xs =
    ⊎_elim
    (λ lt. let same : min n (length xs) ≡ n = omega (arith, lt) in ap (λ k. drop k xs) same)
    (λ le. let same : min n (length xs) ≡ length xs = omega (arith, le) in ap (λ k. drop k xs) same ∙ drop_all
    (length xs) xs (omega arith) ∙ sym (drop_all n xs le))
    (cases_lt n (length xs))
