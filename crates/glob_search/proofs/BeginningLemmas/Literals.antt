-- How a literal component is found in ascending literals.
use Rattle.std.proofs.Common.{◌≡◌, ℕ, ◌+◌, ◌<◌, ⊎_elim, None, Some, List, [], ◌∷◌, length, get_or, string_bytes, refl}
use Rattle.std.proofs.Common.{sym, ap, subst, ◌∙◌, arith, Err}
use Rattle.std.specs.Prelude.{Contains}
use Rattle.std.specs.List.{HoldsAt}
use Rattle.std.specs.List.Sorted.{IsBinarySearchResult, IsNonDecreasingBy}
use Rattle.std.specs.Cmp.Lexicographic.{slice_cmp}
use Rattle.std.specs.Ordering.{nat_cmp, is_lt, ordering_then, ordering_index, ordering_reverse}
use Rattle.std.specs.declared.cmp.Ordering.TheVariants.{Less, Equal, Greater}
use Rattle.std.proofs.lemmas.Cmp.{ranked, by_ranked, tied_itself, nat_list_cmp_total}
use Rattle.std.proofs.lemmas.Bool.{cases_lt}
use Rattle.std.proofs.lemmas.List.{get_or_default}
use Rattle.std.proofs.lemmas.List.Sorted.{searchable_from_sorted}
use Rattle.glob_text.specs.Text.{Text}
use Rattle.glob_search.specs.Private.Nodes.{AreAscending, LiteralLeads}
use Rattle.glob_search.specs.declared.beginnings.node.Literal.{Literal}
use Rattle.glob_search.specs.declared.beginnings.node.Node.{Node}

-- texts that compare as equal are equal
pub cmp-equal : (xs ys : Text) → slice_cmp nat_cmp xs ys ≡ Equal → xs ≡ ys
cmp-equal [] [] e = refl
cmp-equal [] (y ∷ ys) e = absurd (cc)
cmp-equal (x ∷ xs) [] e = absurd (cc)
cmp-equal (x ∷ xs) (y ∷ ys) e = by_ranked (x < y) (x ≡ y) (y < x) (nat_cmp x y) (ranked x y (nat_cmp x y) refl)
    (λ is lt. absurd (less (sym (ap (λ o. ordering_then o (slice_cmp nat_cmp xs ys)) is) ∙ e)))
    (λ is same. λ i. same i ∷ cmp-equal xs ys (sym (ap (λ o. ordering_then o (slice_cmp nat_cmp xs ys)) is) ∙ e) i)
    (λ is lt. absurd (greater (sym (ap (λ o. ordering_then o (slice_cmp nat_cmp xs ys)) is) ∙ e)))
  where
    less : Less ≡ Equal → ⊥
    less e = cc

    greater : Greater ≡ Equal → ⊥
    greater e = cc

pub equal-cmp : (xs ys : Text) → xs ≡ ys → slice_cmp nat_cmp xs ys ≡ Equal
equal-cmp xs ys e = subst (λ zs. slice_cmp nat_cmp xs zs ≡ Equal) e (tied_itself nat_list_cmp_total xs)

less-equal : Less ≡ Equal → ⊥
less-equal e = cc

greater-equal : Greater ≡ Equal → ⊥
greater-equal e = cc

module _ {A : Type 0} (ls : List (Literal A)) (up : AreAscending ls) (text : Text) where
  -- each text is there once
  once : (i j : ℕ) (l m : Literal A) → i < length ls → j < length ls → get_or ls i l ≡ l → get_or ls j m ≡ m
      → string_bytes l.text ≡ text → string_bytes m.text ≡ text → l ≡ m
  once i j l m hi hj li mj tl tm = ⊎_elim (λ lt. absurd (clash i j l m lt hj li mj tl tm))
      (λ ge. ⊎_elim (λ lt. absurd (clash j i m l lt hi mj li tm tl))
      (λ le. let same : i ≡ j = omega arith in sym li ∙ get_or_default ls i l m hi ∙ ap (λ k. get_or ls k m) same ∙ mj)
      (cases_lt j i)) (cases_lt i j)
    where
      clash : (i j : ℕ) (l m : Literal A) → i < j → j < length ls → get_or ls i l ≡ l → get_or ls j m ≡ m
          → string_bytes l.text ≡ text → string_bytes m.text ≡ text → ⊥
      clash i j l m lt hj li mj tl tm =
          less-equal (sym (up i j m lt hj) ∙ equal-cmp _ _ (ap (λ x. string_bytes x.text) (get_or_default ls i m l
          (omega arith) ∙ li) ∙ tl ∙ sym tm ∙ ap (λ x. string_bytes x.text) (sym mj)))

  pub rises : IsNonDecreasingBy (λ l. ordering_index (slice_cmp nat_cmp (string_bytes l.text) text)) ls
  rises = searchable_from_sorted nat_list_cmp_total (λ l. string_bytes l.text) ls text
      (λ k d from lt. ap is_lt (nat_list_cmp_total.antisymm (string_bytes (get_or ls (k + 1) d).text)
      (string_bytes (get_or ls k d).text) ∙ ap ordering_reverse (up k (k + 1) d (omega arith) lt)))

  pub found : (node : Node A) (i : ℕ) (l : Literal A) → node.literals.items ≡ ls → i < length ls → l ≡ get_or ls i l
      → HoldsAt (λ l. slice_cmp nat_cmp (string_bytes l.text) text ≡ Equal) ls i → LiteralLeads node text (Some l.node)
  found node i l is lt at h =
      let here : string_bytes l.text ≡ text = cmp-equal _ _ (subst (λ x. slice_cmp nat_cmp (string_bytes x.text) text ≡
      Equal) (sym at) (h l)) in
      subst (λ xs. ((m : Literal A) × Contains xs m × (string_bytes m.text ≡ text) × (m.node ≡ l.node))
      × ((m : Literal A) → Contains xs m → string_bytes m.text ≡ text → m.node ≡ l.node)) (sym is)
      ((l, (i, lt, sym at), here, refl), (λ m in' t. ap (λ x. x.node) (once in'.0 i m l in'.1 lt in'.2 (sym at) t here)))

  pub missed : (node : Node A) (i : ℕ) → node.literals.items ≡ ls
      → IsBinarySearchResult (λ l. slice_cmp nat_cmp (string_bytes l.text) text) ls (Err i) → LiteralLeads node text None
  missed node i is parted =
      let parts = parted rises in
      subst (λ xs. (m : Literal A) → Contains xs m → string_bytes m.text ≡ text → ⊥) (sym is)
      (λ m in' t. ⊎_elim
      (λ lt. less-equal (sym (parts.0 in'.0 m (omega arith) lt) ∙ equal-cmp _ _ (ap (λ x. string_bytes x.text) in'.2 ∙ t)))
      (λ ge. greater-equal (sym (parts.1 in'.0 m ge in'.1) ∙ equal-cmp _ _ (ap (λ x. string_bytes x.text) in'.2 ∙ t)))
      (cases_lt in'.0 i))
