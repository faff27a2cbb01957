-- Lists that go together, as they grow.
use Rattle.std.proofs.Common.{◌≡◌, ◌<◌, ◌≢◌, ⊎_elim, List, [], ◌∷◌, ◌++◌, length, sym, subst₂, arith}
use Rattle.std.proofs.lemmas.Bool.{cases_eq}
use Rattle.std.proofs.lemmas.List.{get_or_append_left, get_or_push, length_push}
use Rattle.glob_examples.specs.NameTable.{AreAligned}

-- Lists that go together still do with one more element at the end of each.
pub AreAligned-push : {X Y : Type 0} (R : X → Y → Type 0) (xs : List X) (ys : List Y) (x : X) (y : Y) →
    AreAligned R xs ys → R x y → AreAligned R (xs ++ x ∷ []) (ys ++ y ∷ [])
AreAligned-push R xs ys x y before here = record {
  count = omega (arith, length_push xs x, length_push ys y, before.count);
  each = λ k d e below.
      ⊎_elim
      (λ (at : k ≡ length xs). subst₂ R (sym (get_or_push xs x d k (sym at)))
      (sym (get_or_push ys y e k (omega (arith, before.count)))) here)
      (λ (other : k ≢ length xs).
      let lower : k < length xs = omega (arith, length_push xs x) in
      subst₂ R (sym (get_or_append_left xs (x ∷ []) d k lower)) (sym (get_or_append_left ys (y ∷ []) e k (omega (arith, before.count))))
      (before.each k d e lower))
      (cases_eq k (length xs));
}
