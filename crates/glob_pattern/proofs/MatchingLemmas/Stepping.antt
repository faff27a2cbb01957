-- Stepping over a text, one character at a time.
use Rattle.std.proofs.Common.{◌≡◌, ℕ, suc, ◌+◌, ◌-◌, ◌<◌, ◌≤◌, Bool, false, ◌∷◌, length, drop, refl, arith, sym, ap}
use Rattle.std.proofs.Common.{◌∙◌, slice_index, get_or, ◌==◌, length-drop}
use Rattle.std.proofs.Math.Seq.{drop-cons}
use Rattle.std.proofs.lemmas.Bool.Decides.{nat_tests}
use Rattle.glob_text.specs.Text.{Text, opens}
use Rattle.glob_text.specs.Characters.{slash}
use Rattle.glob_pattern.specs.Private.TextTable.{opens_within}
use Rattle.glob_pattern.specs.Private.Stepping.{place_before, IsSteppedTo}

-- the rest is no longer than the text
pub place_before-cons : (text rest : Text) (c : ℕ) → c ∷ rest ≡ drop (place_before text (c ∷ rest)) text
    → (place_before text rest ≡ suc (place_before text (c ∷ rest))) × (place_before text (c ∷ rest) < length text)
place_before-cons text rest c left =
    let long : suc (length rest) ≡ length (drop (place_before text (c ∷ rest)) text) = ap length left in
    (omega (arith, length-drop (place_before text (c ∷ rest)) text), omega (arith, length-drop (place_before text (c ∷ rest)) text))

-- a character and what follows it are at place p
pub drop-split : (text rest : Text) (c p : ℕ) → c ∷ rest ≡ drop p text → p < length text
    → (c ≡ slice_index text p) × (rest ≡ drop (suc p) text)
drop-split text rest c p left below =
    let e : drop p text ≡ get_or text p 0 ∷ drop (suc p) text = drop-cons text p 0 below in
    (cc, cc)

-- a component begins at a place after the start if `/` is before it
pub opens-suc : (text : Text) (p : ℕ) → opens text (suc p) ≡ (slice_index text p == slash)
opens-suc text p =
    let back : suc p - 1 ≡ p = omega arith in
    let later : (suc p == 0) ≡ false = grind (arith, nat_tests) in
    rw (back, later) refl

-- one step on
pub IsSteppedTo-step : (start : Bool) (text rest : Text) (c current : ℕ) (opened opening : Bool)
    → IsSteppedTo start text (c ∷ rest) current opened opening → IsSteppedTo start text rest c opening (c == slash)
IsSteppedTo-step start text rest c current opened opening s =
    let next = place_before-cons text rest c s.left in
    let split = drop-split text rest c (place_before text (c ∷ rest)) s.left next.1 in
    let back : place_before text rest - 1 ≡ place_before text (c ∷ rest) = omega (arith, next.0) in
    record {
      left = split.1 ∙ ap (λ p. drop p text) (sym next.0);
      here = ap (λ d. d == slash) split.0 ∙ ap (opens_within start text) (sym next.0);
      last = λ _. split.0 ∙ ap (λ p. slice_index text p) (sym back);
      before = λ _. s.here ∙ ap (opens_within start text) (sym back);
    }

-- one step on, in places
pub place_before-step : (start : Bool) (text rest : Text) (c current : ℕ) (opened opening : Bool)
    → IsSteppedTo start text (c ∷ rest) current opened opening
    → (place_before text rest ≡ place_before text (c ∷ rest) + 1) × (place_before text rest ≤ length text)
place_before-step start text rest c current opened opening s =
    let next = place_before-cons text rest c s.left in (omega (arith, next.0), omega (arith, next.0, next.1))
