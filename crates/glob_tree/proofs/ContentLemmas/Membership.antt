-- The elements that a list contains.
use Rattle.std.proofs.Common.{◌≡◌, ℕ, zero, suc, ◌<◌, Bool, true, ◌⊎◌, inl, inr, ⊎_elim, List, [], ◌∷◌, length, Option}
use Rattle.std.proofs.Common.{Some, None, refl, ap, sym, ◌∙◌, arith}
use Rattle.std.specs.Prelude.{All, Contains, slice_index_or, filter_map}
use Rattle.std.specs.List.{list_any, list_all, cons_option}
use Rattle.std.proofs.lemmas.Bool.{or_right, or_left, and_parts}
use Rattle.std.proofs.lemmas.List.Elements.{All-nil, All-cons}
use Rattle.std.proofs.lemmas.Option.{none-some, same_Some}

pub Contains-head : {X : Type 0} (x : X) (xs : List X) → Contains (x ∷ xs) x
Contains-head x xs = (0, omega arith, refl)

pub Contains-tail : {X : Type 0} (x : X) (xs : List X) (y : X) → Contains xs y → Contains (x ∷ xs) y
Contains-tail x xs y (k, h, e) = (suc k, omega (arith, h), e)

pub Contains-cases : {X : Type 0} (x : X) (xs : List X) (y : X) → Contains (x ∷ xs) y → (x ≡ y) ⊎ Contains xs y
Contains-cases x xs y (zero, h, e) = inl e
Contains-cases x xs y (suc k, h, e) = inr (k, omega (arith, h), e)

pub Contains-nil : {X : Type 0} (y : X) → Contains [] y → ⊥
Contains-nil y (k, h, e) = omega (arith, h)

-- what holds for each contained element holds for all
pub All-from_contains : {X : Type 0} (P : X → Type 0) (xs : List X) → ((x : X) → Contains xs x → P x) → All P xs
All-from_contains P [] h = All-nil P
All-from_contains P (x ∷ xs) h = All-cons P x xs (h x (Contains-head x xs)) (All-from_contains P xs
    (λ y in'. h y (Contains-tail x xs y in')))

cons_option-cases : {Y : Type 0} (o : Option Y) (ys : List Y) (y : Y) → Contains (cons_option o ys) y → (o ≡ Some y) ⊎ Contains ys y
cons_option-cases None ys y h = inr h
cons_option-cases (Some w) ys y h = ⊎_elim (λ e. inl (ap Some e)) inr (Contains-cases w ys y h)

cons_option-first : {Y : Type 0} (o : Option Y) (ys : List Y) (y : Y) → o ≡ Some y → Contains (cons_option o ys) y
cons_option-first None ys y e = absurd (none-some y e)
cons_option-first (Some w) ys y e = (0, omega arith, same_Some w y e)

cons_option-rest : {Y : Type 0} (o : Option Y) (ys : List Y) (y : Y) → Contains ys y → Contains (cons_option o ys) y
cons_option-rest None ys y h = h
cons_option-rest (Some w) ys y h = Contains-tail w ys y h

-- each value that `filter_map` keeps comes from an element
pub Contains-filter_map : {X Y : Type 0} (f : X → Option Y) (xs : List X) (y : Y) → Contains (filter_map f xs) y →
    (x : X) × Contains xs x × (f x ≡ Some y)
Contains-filter_map f [] y h = absurd (Contains-nil y h)
Contains-filter_map f (x ∷ xs) y h = ⊎_elim
    (λ e. (x, Contains-head x xs, e))
    (λ later. let (z, in', e) = Contains-filter_map f xs y later in (z, Contains-tail x xs z in', e))
    (cons_option-cases (f x) (filter_map f xs) y h)

-- each element that has a value gives that value to `filter_map`
pub filter_map-contains : {X Y : Type 0} (f : X → Option Y) (xs : List X) (x : X) (y : Y) → Contains xs x
    → f x ≡ Some y → Contains (filter_map f xs) y
filter_map-contains f [] x y h e = absurd (Contains-nil x h)
filter_map-contains f (z ∷ xs) x y h e = ⊎_elim
    (λ same. cons_option-first (f z) (filter_map f xs) y (ap f same ∙ e))
    (λ later. cons_option-rest (f z) (filter_map f xs) y (filter_map-contains f xs x y later e))
    (Contains-cases z xs x h)

-- if all pass a test, each element does
pub list_all-contains : {X : Type 0} (p : X → Bool) (xs : List X) (x : X) → list_all p xs ≡ true → Contains xs x → p x ≡ true
list_all-contains p [] x e h = absurd (Contains-nil x h)
list_all-contains p (z ∷ xs) x e h = ⊎_elim
    (λ same. ap p (sym same) ∙ (and_parts (p z) (list_all p xs) e).0)
    (λ later. list_all-contains p xs x (and_parts (p z) (list_all p xs) e).1 later)
    (Contains-cases z xs x h)

-- if an element passes a test, some element does
pub list_any-contains : {X : Type 0} (p : X → Bool) (xs : List X) (x : X) → p x ≡ true → Contains xs x → list_any p xs ≡ true
list_any-contains p [] x e h = absurd (Contains-nil x h)
list_any-contains p (z ∷ xs) x e h = ⊎_elim
    (λ same. or_left (p z) (list_any p xs) (ap p same ∙ e))
    (λ later. or_right (p z) (list_any p xs) (list_any-contains p xs x e later))
    (Contains-cases z xs x h)

-- `filter_map` gives the same for lists that give the same at each index
pub filter_map_by_place : {X Y Z : Type 0} (f : X → Option Z) (g : Y → Option Z) (xs : List X) (ys : List Y) → length xs ≡ length ys
    → ((i : ℕ) (d : X) (e : Y) → i < length xs → f (slice_index_or xs i d) ≡ g (slice_index_or ys i e)) → filter_map f xs ≡ filter_map g ys
filter_map_by_place f g [] [] long same = refl
filter_map_by_place f g [] (y ∷ ys) long same = absurd (omega (arith, long))
filter_map_by_place f g (x ∷ xs) [] long same = absurd (omega (arith, long))
filter_map_by_place f g (x ∷ xs) (y ∷ ys) long same = λ i. cons_option (same 0 x y (omega arith) i)
    (filter_map_by_place f g xs ys (omega (arith, long)) (λ k d e h. same (suc k) d e (omega (arith, h))) i)
