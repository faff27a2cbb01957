-- The last of a list, and what is before it.
use Rattle.std.proofs.Common.{◌≡◌, ℕ, zero, suc, ◌+◌, List, [], ◌∷◌, ◌++◌, length, get_or, set, map, refl, ap, sym, ◌∙◌, arith}
use Rattle.std.specs.Prelude.{reverse}
use Rattle.std.specs.List.{All}
use Rattle.std.proofs.lemmas.List.Elements.{All-contains, Contains-append_left, Contains-append_right}
use Rattle.glob_tree.proofs.ContentLemmas.Membership.{All-from_contains, Contains-head}
use Rattle.std.proofs.lemmas.List.{map-append, reverse-append, reverse-reverse}

-- the last element is x, and it may be changed
pub record Cut {X : Type 0} (xs : List X) (n : ℕ) (x : X) : Type 0 where
  pub front : List X
  pub whole : xs ≡ front ++ x ∷ []
  pub changed : (y : X) → set xs n y ≡ front ++ y ∷ []

pub cut : {X : Type 0} (xs : List X) (n : ℕ) (x : X) → n + 1 ≡ length xs → x ≡ get_or xs n x → Cut xs n x
cut [] n x long is = absurd (omega (arith, long))
cut (y ∷ []) zero x long is = record { front = []; whole = ap (λ z. z ∷ []) (sym is); changed = λ z. refl }
cut (y ∷ []) (suc n) x long is = absurd (omega (arith, long))
cut (y ∷ z ∷ zs) zero x long is = absurd (omega (arith, long))
cut (y ∷ z ∷ zs) (suc n) x long is =
    let k = cut (z ∷ zs) n x (omega (arith, long)) is in
    record { front = y ∷ k.front; whole = ap (λ ws. y ∷ ws) k.whole; changed = λ w. ap (λ ws. y ∷ ws) (k.changed w) }

-- from the last on
pub reverse-last : {X : Type 0} (xs : List X) (x : X) → reverse (xs ++ x ∷ []) ≡ x ∷ reverse xs
reverse-last xs x = reverse-append xs (x ∷ [])

pub reverse-from : {X : Type 0} (xs ys : List X) (x : X) → xs ≡ ys ++ x ∷ [] → reverse xs ≡ x ∷ reverse ys
reverse-from xs ys x is = ap reverse is ∙ reverse-last ys x

-- the same list has the same last
pub same-last : {X : Type 0} (xs ys : List X) (x y : X) → xs ++ x ∷ [] ≡ ys ++ y ∷ [] → (xs ≡ ys) × (x ≡ y)
same-last xs ys x y is =
    let back : x ∷ reverse xs ≡ y ∷ reverse ys = sym (reverse-last xs x) ∙ ap reverse is ∙ reverse-last ys y in
    let fronts : reverse xs ≡ reverse ys = cc in
    let last : x ≡ y = cc in
    (sym (reverse-reverse xs) ∙ ap reverse fronts ∙ reverse-reverse ys, last)

pub map-reverse : {X Y : Type 0} (f : X → Y) (xs : List X) → map f (reverse xs) ≡ reverse (map f xs)
map-reverse f [] = refl
map-reverse f (x ∷ xs) =
    ap (map f) (reverse-append (x ∷ []) xs)
    ∙ map-append f (reverse xs) (x ∷ [])
    ∙ ap (λ ys. ys ++ f x ∷ []) (map-reverse f xs)
    ∙ sym (reverse-append (f x ∷ []) (map f xs))

-- what holds for all elements holds for the last and for those before it
pub All-before : {X : Type 0} (P : X → Type 0) (xs : List X) (x : X) → All P (xs ++ x ∷ []) → All P xs
All-before P xs x all = All-from_contains P xs (λ y in'. All-contains P (xs ++ x ∷ []) y all (Contains-append_left xs (x ∷ []) y in'))

pub All-last : {X : Type 0} (P : X → Type 0) (xs : List X) (x : X) → All P (xs ++ x ∷ []) → P x
All-last P xs x all = All-contains P (xs ++ x ∷ []) x all (Contains-append_right xs (x ∷ []) x (Contains-head x []))
