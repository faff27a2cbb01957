-- The beginnings of patterns and their numbers in a tree.
use Rattle.std.proofs.Common.{◌≡◌, ℕ, zero, suc, ◌<◌, ◌≤◌, ◌⊎◌, inl, inr, ⊎_elim, List, [], ◌∷◌, ◌++◌, length, map}
use Rattle.std.proofs.Common.{refl, ap, sym, ◌∙◌, arith}
use Rattle.std.specs.List.{All}
use Rattle.std.proofs.lemmas.List.{append_assoc, length-append, map-append}
use Rattle.std.proofs.lemmas.Option.{slice_get_within}
use Rattle.glob_text.specs.Text.{Text}
use Rattle.glob_pattern.specs.declared.options.MatchOptions.{MatchOptions}
use Rattle.glob_search.specs.Private.NodeNumbers.{IsWithin}
use Rattle.glob_search.specs.Private.Nodes.{IsTree, recursive}
use Rattle.glob_search.specs.declared.beginnings.node.Node.{Node}
use Rattle.glob_search.proofs.EngineLemmas.Lasts.{same-last}
use Rattle.glob_search.proofs.BeginningLemmas.Trees.{ByOther, ByRecursive, led-by}

-- the last of some elements
pub last-of : {X : Type 0} (x : X) (xs : List X) → (ys : List X) × (y : X) × (x ∷ xs ≡ ys ++ y ∷ [])
last-of x [] = ([], x, refl)
last-of x (z ∷ zs) = let (ys, y, is) = last-of z zs in (x ∷ ys, y, ap (λ us. x ∷ us) is)

pub push-not-nil : {X : Type 0} (xs : List X) (x : X) → xs ++ x ∷ [] ≡ [] → ⊥
push-not-nil [] x e = cc
push-not-nil (y ∷ ys) x e = cc

-- a list of elements that were read, without the last
pub map-push : {X Y : Type 0} (f : X → Y) (xs : List X) (ys : List Y) (y : Y) → map f xs ≡ ys ++ y ∷ [] → (us : List X)
    × (u : X) × (xs ≡ us ++ u ∷ []) × (map f us ≡ ys) × (f u ≡ y)
map-push f [] ys y e = absurd (push-not-nil ys y (sym e))
map-push f (x ∷ xs) ys y e =
    let (us, u, is) = last-of x xs in
    let mapped = same-last (map f us) ys (f u) y (sym (map-append f us (u ∷ [])) ∙ ap (map f) (sym is) ∙ e) in
    (us, u, is, mapped.0, mapped.1)

module _ {A : Type 0} (o : MatchOptions) (nodes : List (Node A)) (front : ℕ → List Text) (tree : IsTree o nodes front)
    (within : All (IsWithin (length nodes)) nodes) where
  -- a number of these components, and the component by which the number above goes on
  pub record Goes (us : List Text) (t : Text) : Type 0 where
    pub number : ℕ
    pub way : ((up : ByOther o nodes front tree within number) × (front up.parent ≡ us) × (up.text ≡ t))
        ⊎ ((up : ByRecursive o nodes front tree within number) × (front up.parent ≡ us) × (recursive ≡ t))

  -- what leads to it goes on by it
  pub goes-from : (n : ℕ) (c : ℕ) → c < length nodes → (us : List Text) (t : Text) (vs : List Text) → length vs ≤ n
      → front c ≡ us ++ t ∷ vs → Goes us t
  goes-from n c lt us t [] le is = ⊎_elim
      (λ zero. absurd (push-not-nil us t (sym is ∙ ap front zero ∙ tree.root)))
      (⊎_elim
      (λ up. let both = same-last (front up.parent) us up.text t (sym up.front_is ∙ is) in record {
        number = c;
        way =
            inl (up, both.0, both.1);
      })
      (λ up. let both = same-last (front up.parent) us recursive t (sym up.front_is ∙ is) in record {
        number = c;
        way =
            inr (up, both.0, both.1);
      }))
      (led-by o nodes front tree within c lt)
  goes-from zero c lt us t (v ∷ vs) le is = absurd (omega (arith, le))
  goes-from (suc n) c lt us t (v ∷ vs) le is =
      let (ws, w, last) = last-of v vs in
      let shorter : length ws ≤ n = omega (arith, le, ap length last, length-append ws (w ∷ [])) in
      let whole : front c ≡ (us ++ t ∷ ws) ++ w ∷ [] = is ∙ ap (λ xs. us ++ t ∷ xs) last ∙ sym (append_assoc us (t ∷ ws) (w ∷ [])) in
      ⊎_elim
      (λ zero. absurd (push-not-nil (us ++ t ∷ ws) w (sym whole ∙ ap front zero ∙ tree.root)))
      (⊎_elim
      (λ up. goes-from n up.parent (slice_get_within nodes up.parent up.node up.at) us t ws shorter
      (same-last (front up.parent) (us ++ t ∷ ws) up.text w (sym up.front_is ∙ whole)).0)
      (λ up. goes-from n up.parent (slice_get_within nodes up.parent up.node up.at) us t ws shorter
      (same-last (front up.parent) (us ++ t ∷ ws) recursive w (sym up.front_is ∙ whole)).0))
      (led-by o nodes front tree within c lt)
