-- Sums over lists.
use Rattle.std.proofs.Common.{◌≡◌, ℕ, ◌+◌, ◌*◌, ◌≤◌, true, false, cond, Bool, List, [], ◌∷◌, length, refl, sym, ap, ◌∙◌}
use Rattle.std.proofs.Common.{arith, mul-add, mul-zero}
use Rattle.std.specs.Prelude.{Contains}
use Rattle.glob_tree.specs.Content.{DirEntry, insert_entry, is_before, sorted_entries}
use Rattle.glob_tree.proofs.ContentLemmas.Membership.{Contains-head, Contains-tail}

-- the sum of f over the elements
abbrev pub total : {X : Type 0} → (X → ℕ) → List X → ℕ
total f [] = 0
total f (x ∷ xs) = f x + total f xs

pub total-le : {X : Type 0} (f g : X → ℕ) (xs : List X) → ((x : X) → Contains xs x → f x ≤ g x) → total f xs ≤ total g xs
total-le f g [] less = omega arith
total-le f g (x ∷ xs) less = omega (arith, less x (Contains-head x xs), total-le f g xs (λ y in'. less y (Contains-tail x xs y in')))

pub total-add : {X : Type 0} (f g : X → ℕ) (xs : List X) → total (λ x. f x + g x) xs ≡ total f xs + total g xs
total-add f g [] = refl
total-add f g (x ∷ xs) = omega (arith, total-add f g xs)

pub total-mul : {X : Type 0} (a : ℕ) (f : X → ℕ) (xs : List X) → total (λ x. a * f x) xs ≡ a * total f xs
total-mul a f [] = sym (mul-zero a)
total-mul a f (x ∷ xs) = ap (λ n. a * f x + n) (total-mul a f xs) ∙ sym (mul-add a (f x) (total f xs))

pub total-zero : {X : Type 0} (f : X → ℕ) (xs : List X) → ((x : X) → Contains xs x → f x ≡ 0) → total f xs ≡ 0
total-zero f [] none = refl
total-zero f (x ∷ xs) none = omega (arith, none x (Contains-head x xs), total-zero f xs (λ y in'. none y (Contains-tail x xs y in')))

-- if each element counts at most once, the sum is at most the length
pub total-length : {X : Type 0} (f : X → ℕ) (xs : List X) → ((x : X) → f x ≤ 1) → total f xs ≤ length xs
total-length f [] one = omega arith
total-length f (x ∷ xs) one = omega (arith, one x, total-length f xs one)

-- the order of entries does not matter
total-insert_entry : (f : DirEntry → ℕ) (e : DirEntry) (es : List DirEntry) → total f (insert_entry e es) ≡ f e + total f es
total-insert_entry f e [] = refl
total-insert_entry f e (g ∷ gs) = by_order (total-insert_entry f e gs) (is_before e g)
  where
    by_order : total f (insert_entry e gs) ≡ f e + total f gs → (b : Bool) → total f (cond b (e ∷ g ∷ gs)
        (g ∷ insert_entry e gs)) ≡ f e + total f (g ∷ gs)
    by_order rest true = refl
    by_order rest false = omega (arith, rest)

pub total-sorted_entries : (f : DirEntry → ℕ) (es : List DirEntry) → total f (sorted_entries es) ≡ total f es
total-sorted_entries f [] = refl
total-sorted_entries f (e ∷ es) = omega (arith, total-insert_entry f e (sorted_entries es), total-sorted_entries f es)
