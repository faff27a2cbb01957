-- Elements and pieces of a list, by their places.
use Rattle.std.proofs.Common.{◌≡◌, ℕ, suc, ◌+◌, ◌-◌, ◌<◌, ◌≤◌, ◌⊎◌, inl, inr, ⊎_elim, List, [], ◌∷◌, ◌++◌, length}
use Rattle.std.proofs.Common.{get_or, drop, refl, sym, ap, ◌∙◌, arith}
use Rattle.std.proofs.lemmas.List.{get_or-drop, drop-drop, drop_at, length-drop, length-append, get_or_append_left}

-- an element from place n on, found in the rest of the list
pub get_or-from_drop : {X : Type 0} (xs ys : List X) (n i : ℕ) (d : X) → drop n xs ≡ ys → get_or xs (n + i) d ≡ get_or ys i d
get_or-from_drop xs ys n i d e = sym (get_or-drop n xs i d) ∙ ap (λ zs. get_or zs i d) e

-- the first element from place n on
pub get_or-at_drop : {X : Type 0} (xs ys : List X) (n : ℕ) (x d : X) → drop n xs ≡ x ∷ ys → get_or xs n d ≡ x
get_or-at_drop xs ys n x d e =
    let z : n + 0 ≡ n = omega arith in
    sym (ap (λ k. get_or xs k d) z) ∙ get_or-from_drop xs (x ∷ ys) n 0 d e

-- the elements after the first from place n on
pub drop-at_drop : {X : Type 0} (xs ys : List X) (n : ℕ) (x : X) → drop n xs ≡ x ∷ ys → drop (n + 1) xs ≡ ys
drop-at_drop xs ys n x e = sym (drop-drop 1 n xs) ∙ ap (λ zs. drop 1 zs) e

-- an element is at place n
pub length-at_drop : {X : Type 0} (xs ys : List X) (n : ℕ) (x : X) → drop n xs ≡ x ∷ ys → length xs ≡ n + suc (length ys)
length-at_drop {X} xs ys n x e =
    let l : length xs - n ≡ suc (length ys) = sym (length-drop n xs) ∙ ap length e in
    omega arith

-- if nothing is left from a place within the list on, that place is its end
pub length-at_end : {X : Type 0} (xs : List X) (n : ℕ) → drop n xs ≡ [] → n ≤ length xs → n ≡ length xs
length-at_end xs n e h =
    let l : length xs - n ≡ 0 = sym (length-drop n xs) ∙ ap length e in
    omega arith

-- what is after a piece at place n
pub drop-after_piece : {X : Type 0} (xs piece rest : List X) (n : ℕ) → drop n xs ≡ piece ++ rest → drop (n + length piece) xs ≡ rest
drop-after_piece xs piece rest n e =
    sym (drop-drop (length piece) n xs) ∙ ap (λ zs. drop (length piece) zs) e ∙ drop_at piece rest (length piece) refl

-- an element of a piece at place n
pub get_or-in_piece : {X : Type 0} (xs piece rest : List X) (n i : ℕ) (d : X) → drop n xs ≡ piece ++ rest
    → i < length piece → get_or xs (n + i) d ≡ get_or piece i d
get_or-in_piece xs piece rest n i d e h = get_or-from_drop xs (piece ++ rest) n i d e ∙ get_or_append_left piece rest d i h

-- a piece at place n ends within the list
pub length-after_piece : {X : Type 0} (xs piece rest : List X) (n : ℕ) → drop n xs ≡ piece ++ rest → n ≤ length xs
    → n + length piece ≤ length xs
length-after_piece xs piece rest n e h =
    let l : length xs - n ≡ length piece + length rest = sym (length-drop n xs) ∙ ap length e ∙ length-append piece rest in
    omega arith

-- a list is empty, or it has a last element
pub at_last : {X : Type 0} (xs : List X) → (xs ≡ []) ⊎ ((ys : List X) × (c : X) × (xs ≡ ys ++ c ∷ []))
at_last [] = inl refl
at_last (x ∷ xs) = ⊎_elim (λ e. inr ([], x, ap (λ zs. x ∷ zs) e)) (λ (ys, c, e). inr (x ∷ ys, c, ap (λ zs. x ∷ zs) e)) (at_last xs)
