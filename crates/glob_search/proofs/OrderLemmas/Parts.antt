-- The elements of lists that are made part by part.
use Rattle.std.proofs.Common.{◌≡◌, ⊎_elim, Bool, true, false, cond, List, [], ◌∷◌, map, flat_map, filter, refl, ap, sym, subst, ◌∙◌, arith}
use Rattle.std.specs.Prelude.{Contains}
use Rattle.std.specs.List.{list_any}
use Rattle.std.proofs.lemmas.Bool.{false≢true, or_cases, both_ways}
use Rattle.std.proofs.lemmas.List.Elements.{Contains-append_left, Contains-append_right, Contains-append_cases}
use Rattle.glob_tree.proofs.ContentLemmas.Membership.{Contains-head, Contains-tail, Contains-cases, Contains-nil}

pub Contains-flat_map : {X Y : Type 0} (f : X → List Y) (xs : List X) (y : Y) → Contains (flat_map f xs) y → (x : X)
    × Contains xs x × Contains (f x) y
Contains-flat_map f [] y h = absurd (Contains-nil y h)
Contains-flat_map f (x ∷ xs) y h = ⊎_elim
    (λ here. (x, Contains-head x xs, here))
    (λ later. let (z, in', e) = Contains-flat_map f xs y later in (z, Contains-tail x xs z in', e))
    (Contains-append_cases (f x) (flat_map f xs) y h)

pub flat_map-contains : {X Y : Type 0} (f : X → List Y) (xs : List X) (x : X) (y : Y) → Contains xs x → Contains
    (f x) y → Contains (flat_map f xs) y
flat_map-contains f [] x y h e = absurd (Contains-nil x h)
flat_map-contains f (z ∷ xs) x y h e = ⊎_elim
    (λ same. Contains-append_left (f z) (flat_map f xs) y (subst (λ w. Contains (f w) y) (sym same) e))
    (λ later. Contains-append_right (f z) (flat_map f xs) y (flat_map-contains f xs x y later e))
    (Contains-cases z xs x h)

pub Contains-map : {X Y : Type 0} (f : X → Y) (xs : List X) (y : Y) → Contains (map f xs) y → (x : X) × Contains xs x × (f x ≡ y)
Contains-map f [] y h = absurd (Contains-nil y h)
Contains-map f (x ∷ xs) y h = ⊎_elim
    (λ same. (x, Contains-head x xs, same))
    (λ later. let (z, in', e) = Contains-map f xs y later in (z, Contains-tail x xs z in', e))
    (Contains-cases (f x) (map f xs) y h)

pub list_any-some : {X : Type 0} (p : X → Bool) (xs : List X) → list_any p xs ≡ true → (x : X) × Contains xs x × (p x ≡ true)
list_any-some p [] h = absurd (false≢true h)
list_any-some p (x ∷ xs) h = ⊎_elim
    (λ here. (x, Contains-head x xs, here))
    (λ later. let (z, in', e) = list_any-some p xs later in (z, Contains-tail x xs z in', e))
    (or_cases (p x) (list_any p xs) h)

pub Contains-one : {X : Type 0} (x y : X) → Contains (x ∷ []) y → x ≡ y
Contains-one x y h = ⊎_elim (λ same. same) (λ later. absurd (Contains-nil y later)) (Contains-cases x [] y h)

pub map-contains : {X Y : Type 0} (f : X → Y) (xs : List X) (x : X) (y : Y) → Contains xs x → f x ≡ y → Contains (map f xs) y
map-contains f [] x y h e = absurd (Contains-nil x h)
map-contains f (z ∷ xs) x y h e = ⊎_elim
    (λ same. subst (λ w. Contains (w ∷ map f xs) y) (sym (ap f same ∙ e)) (Contains-head y (map f xs)))
    (λ later. Contains-tail (f z) (map f xs) y (map-contains f xs x y later e))
    (Contains-cases z xs x h)

-- what passes a test
pub Contains-filter : {X : Type 0} (p : X → Bool) (xs : List X) (x : X) → Contains (filter p xs) x → Contains xs x × (p x ≡ true)
Contains-filter p [] x h = absurd (Contains-nil x h)
Contains-filter p (z ∷ xs) x h = by_test (p z) refl h (λ later. Contains-filter p xs x later)
  where
    by_test : (b : Bool) → p z ≡ b → Contains (cond b (z ∷ filter p xs) (filter p xs)) x → (Contains (filter p xs) x
        → Contains xs x × (p x ≡ true))
        → Contains (z ∷ xs) x × (p x ≡ true)
    by_test true e h again = ⊎_elim
        (λ same. ((0, omega arith, same), ap p (sym same) ∙ e))
        (λ later. let (in', passes) = again later in (Contains-tail z xs x in', passes))
        (Contains-cases z (filter p xs) x h)
    by_test false e h again = let (in', passes) = again h in (Contains-tail z xs x in', passes)

pub filter-contains : {X : Type 0} (p : X → Bool) (xs : List X) (x : X) → Contains xs x → p x ≡ true → Contains (filter p xs) x
filter-contains p [] x h e = absurd (Contains-nil x h)
filter-contains p (z ∷ xs) x h e = by_test (p z) refl (λ later. filter-contains p xs x later e)
  where
    by_test : (b : Bool) → p z ≡ b → (Contains xs x → Contains (filter p xs) x) → Contains (cond b (z ∷ filter p xs) (filter p xs)) x
    by_test true t again = ⊎_elim
        (λ same. (0, omega arith, same))
        (λ later. Contains-tail z (filter p xs) x (again later))
        (Contains-cases z xs x h)
    by_test false t again = ⊎_elim
        (λ same. absurd (both_ways (p x) (ap p (sym same) ∙ t) e))
        again
        (Contains-cases z xs x h)
