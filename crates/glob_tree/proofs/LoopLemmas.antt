-- A loop over the items of an iterator.
use Rattle.std.proofs.Common.{◌≡◌, List, [], ◌∷◌, Option, Some, None, refl, sym, ap, subst}
use Rattle.std.specs.Iterator.{AlwaysYields}

module _ {S A B : Type 0} (R : S → Option A → S → Type 0) (v : A → B) where
  -- what is left after an item
  pub left_after : (s t : S) (r : Option A) (x : A) → R s r t → r ≡ Some x → (rest : List B) → AlwaysYields R v s rest
      → (ys : List B) × (rest ≡ v x ∷ ys) × AlwaysYields R v t ys
  left_after s t r x went is [] left = absurd (left x t (subst (λ o. R s o t) is went))
  left_after s t r x went is (y ∷ ys) left = let (same, more) = left.1 x t (subst (λ o. R s o t) is went) in
      (ys, ap (λ z. z ∷ ys) (sym same), more)

  -- nothing is left when the iterator has ended
  pub none_left : (s t : S) (r : Option A) → R s r t → r ≡ None → (rest : List B) → AlwaysYields R v s rest → rest ≡ []
  none_left s t r went is [] left = refl
  none_left s t r went is (y ∷ ys) left = absurd (left.0 t (subst (λ o. R s o t) is went))
