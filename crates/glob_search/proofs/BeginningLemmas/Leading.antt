-- A node that leads to one more number.
use Rattle.std.proofs.Common.{◌≡◌, ◌≢◌, ℕ, ◌+◌, ◌-◌, ◌<◌, ◌≤◌, true, false, inl, inr, ⊎_elim, None, Some, List, [], ◌∷◌}
use Rattle.std.proofs.Common.{◌++◌, length, get_or, string_bytes, refl, sym, ap, subst, ◌∙◌, arith, Err}
use Rattle.std.specs.Prelude.{Contains}
use Rattle.std.specs.List.{All, HoldsAt, insert, list_any}
use Rattle.std.specs.List.Sorted.{IsBinarySearchResult}
use Rattle.std.specs.Cmp.Lexicographic.{slice_cmp}
use Rattle.std.specs.Ordering.{nat_cmp, ordering_reverse}
use Rattle.std.specs.declared.cmp.Ordering.TheVariants.{Less, Equal}
use Rattle.std.proofs.lemmas.Bool.{cases_lt}
use Rattle.std.proofs.lemmas.Cmp.{nat_list_cmp_total}
use Rattle.std.proofs.lemmas.List.Edits.{length-insert, get_or-insert_below, get_or-insert_at, get_or-insert_above}
use Rattle.std.proofs.lemmas.List.Elements.{All-cons, All-push, Contains-append_left, Contains-get_or, Contains-push}
use Rattle.std.proofs.lemmas.List.Sorted.{All-permutation, Contains-permutation, IsPermutation-insert}
use Rattle.std.proofs.lemmas.Option.{none-some, same_Some}
use Rattle.glob_text.specs.Text.{Text}
use Rattle.glob_pattern.specs.Grammar.Characters.{is_wildcard}
use Rattle.glob_pattern.specs.Matching.Components.{is_recursive}
use Rattle.glob_pattern.specs.declared.options.MatchOptions.{MatchOptions}
use Rattle.glob_tree.proofs.ContentLemmas.Membership.{Contains-head, Contains-tail}
use Rattle.glob_search.specs.Private.NodeGrowth.{IsGap, LeadsMore}
use Rattle.glob_search.specs.Private.Nodes.{AreAscending, IsKey, IsNode, recursive}
use Rattle.glob_search.specs.declared.beginnings.node.Literal.{Literal}
use Rattle.glob_search.specs.declared.beginnings.node.Node.{Node}
use Rattle.glob_search.specs.declared.beginnings.node.Wild.{Wild}
use Rattle.glob_search.proofs.BeginningLemmas.Literals.{cmp-equal, rises}

pub not-there : {A : Type 0} (ls : List (Literal A)) (text : Text) (i : ℕ) → i < length ls → HoldsAt
    (λ l. slice_cmp nat_cmp (string_bytes l.text) text ≡ Equal) ls i
    → ((l : Literal A) → Contains ls l → string_bytes l.text ≢ text) → ⊥
not-there [] text i lt h free = omega (arith, lt)
not-there (x ∷ xs) text i lt h free = free (get_or (x ∷ xs) i x) (Contains-get_or (x ∷ xs) i x lt) (cmp-equal _ text (h x))

pub gap-missed : {A : Type 0} (ls : List (Literal A)) (up : AreAscending ls) (text : Text) (i : ℕ)
    → IsBinarySearchResult (λ l. slice_cmp nat_cmp (string_bytes l.text) text) ls (Err i) → IsGap ls text i
gap-missed ls up text i parted =
    let parts = parted (rises ls up text) in
    record { below = λ k d lt. parts.0 k d (omega arith) lt; above = λ k d le lt. parts.1 k d le lt }

module _ {A : Type 0} (ls : List (Literal A)) (up : AreAscending ls) (y : Literal A) (i : ℕ) (le : i ≤ length ls)
    (gap : IsGap ls (string_bytes y.text) i) where
  Below : Literal A → Literal A → Type 0
  Below l m = slice_cmp nat_cmp (string_bytes l.text) (string_bytes m.text) ≡ Less

  pub ascend-insert : AreAscending (insert ls i y)
  unfolding Below
  ascend-insert p q d lt in' =
      let long : length (insert ls i y) ≡ length ls + 1 = length-insert ls i y le in
      ⊎_elim
      (λ low. subst (λ l. Below l (get_or (insert ls i y) q d)) (sym (get_or-insert_below ls i y d p (omega arith) le))
      (subst (Below (get_or ls p d)) (sym (get_or-insert_below ls i y d q low le)) (up p q d lt (omega arith))))
      (λ high. ⊎_elim (λ over. above p q d lt over (omega arith)) (λ same. at p q d lt (omega arith)) (cases_lt i q)) (cases_lt q i)
    where
      at : (p q : ℕ) (d : Literal A) → p < q → q ≡ i → Below (get_or (insert ls i y) p d) (get_or (insert ls i y) q d)
      at p q d lt same =
          subst (λ l. Below l (get_or (insert ls i y) q d)) (sym (get_or-insert_below ls i y d p (omega arith) le))
          (subst (Below (get_or ls p d)) (sym (ap (λ k. get_or (insert ls i y) k d) same ∙ get_or-insert_at ls i y d
          le)) (gap.below p d (omega arith)))

      above : (p q : ℕ) (d : Literal A) → p < q → i < q → q < length ls + 1 → Below (get_or (insert ls i y) p d)
          (get_or (insert ls i y) q d)
      above p q d lt over in' =
          let is : get_or (insert ls i y) q d ≡ get_or ls (q - 1) d =
          let back : q ≡ (q - 1) + 1 = omega arith in ap (λ k. get_or (insert ls i y) k d) back ∙ get_or-insert_above
          ls i y d (q - 1) (omega arith) le in
          subst (Below (get_or (insert ls i y) p d)) (sym is)
          (⊎_elim
          (λ low. subst (λ l. Below l (get_or ls (q - 1) d)) (sym (get_or-insert_below ls i y d p low le))
          (up p (q - 1) d (omega arith) (omega arith)))
          (λ high. ⊎_elim
          (λ beyond.
          let back : p ≡ (p - 1) + 1 = omega arith in
          subst (λ l. Below l (get_or ls (q - 1) d)) (sym (ap (λ k. get_or (insert ls i y) k d) back
          ∙ get_or-insert_above ls i y d (p - 1) (omega arith) le))
          (up (p - 1) (q - 1) d (omega arith) (omega arith)))
          (λ same.
          let here : p ≡ i = omega arith in
          subst (λ l. Below l (get_or ls (q - 1) d)) (sym (ap (λ k. get_or (insert ls i y) k d) here ∙ get_or-insert_at ls i y d le))
          (nat_list_cmp_total.antisymm (string_bytes y.text) (string_bytes (get_or ls (q - 1) d).text)
          ∙ ap ordering_reverse (gap.above (q - 1) d (omega arith) (omega arith)))) (cases_lt i p)) (cases_lt p i))

module _ {A : Type 0} (o : MatchOptions) (front : ℕ → List Text) (k : ℕ) (old new : Node A) (h : IsNode o front k old) where
  pub literal-more : (y : Literal A) (i : ℕ) → new.literals.items ≡ insert old.literals.items i y → new.wilds.items ≡
      old.wilds.items → new.deep ≡ old.deep → new.is_deep ≡ old.is_deep
      → new.is_whole ≡ old.is_whole → i ≤ length old.literals.items → IsGap old.literals.items (string_bytes y.text) i
      → IsKey o (string_bytes y.text)
      → front y.node ≡ front k ++ string_bytes y.text ∷ [] → LeadsMore o front k y.node old new
  literal-more y i ls ws d deep whole le gap key is =
      let moved = IsPermutation-insert old.literals.items i y in
      let P : Literal A → Type 0 = λ l. (front l.node ≡ front k ++ string_bytes l.text ∷ []) × IsKey o (string_bytes l.text) in
      record {
        node = record {
          literals = subst (All P) (sym ls) (All-permutation P (y ∷ old.literals.items) (insert old.literals.items i y)
              moved (All-cons P y old.literals.items (is, key) h.literals));
          ascend = subst AreAscending (sym ls) (ascend-insert old.literals.items h.ascend y i le gap);
          wilds = subst (All (λ w. (front w.node ≡ front k ++ w.pattern ∷ []) × (list_any is_wildcard w.pattern ≡ true)
              × (is_recursive w.pattern ≡ false))) (sym ws) h.wilds;
          deep = λ c led. let both = h.deep c (sym d ∙ led) in (both.0, deep ∙ both.1);
          ends = deep ∙ h.ends;
        };
        leads = inl (
          y,
          subst (λ xs. Contains xs y) (sym ls) (Contains-permutation (y ∷ old.literals.items)
              (insert old.literals.items i y) y moved (Contains-head y old.literals.items)),
          refl,
        );
        kept = λ c led. ⊎_elim
            (λ l. inl (
              l.0,
              subst (λ xs. Contains xs l.0) (sym ls) (Contains-permutation (y ∷ old.literals.items)
                  (insert old.literals.items i y) l.0 moved (Contains-tail y old.literals.items l.0 l.1)),
              l.2,
            ))
            (λ more. inr (⊎_elim (λ w. inl (w.0, subst (λ xs. Contains xs w.0) (sym ws) w.1, w.2)) (λ e. inr (d ∙ e)) more)) led;
        whole = whole;
      }

  pub wild-more : (y : Wild A) → new.wilds.items ≡ old.wilds.items ++ y ∷ [] → new.literals.items ≡ old.literals.items
      → new.deep ≡ old.deep → new.is_deep ≡ old.is_deep
      → new.is_whole ≡ old.is_whole → list_any is_wildcard y.pattern ≡ true → is_recursive y.pattern ≡ false
      → front y.node ≡ front k ++ y.pattern ∷ [] → LeadsMore o front k y.node old new
  wild-more y ws ls d deep whole wild other is =
      let P : Wild A → Type 0 = λ w. (front w.node ≡ front k ++ w.pattern ∷ []) × (list_any is_wildcard w.pattern ≡
      true) × (is_recursive w.pattern ≡ false) in
      record {
        node = record {
          literals = subst (All (λ l. (front l.node ≡ front k ++ string_bytes l.text ∷ []) × IsKey o
              (string_bytes l.text))) (sym ls) h.literals;
          ascend = subst AreAscending (sym ls) h.ascend;
          wilds = subst (All P) (sym ws) (All-push P old.wilds.items y h.wilds (is, wild, other));
          deep = λ c led. let both = h.deep c (sym d ∙ led) in (both.0, deep ∙ both.1);
          ends = deep ∙ h.ends;
        };
        leads = inr (inl (y, subst (λ xs. Contains xs y) (sym ws) (Contains-push old.wilds.items y), refl));
        kept = λ c led. ⊎_elim
            (λ l. inl (l.0, subst (λ xs. Contains xs l.0) (sym ls) l.1, l.2))
            (λ more. inr (⊎_elim (λ w. inl (
              w.0,
              subst (λ xs. Contains xs w.0) (sym ws)
                  (Contains-append_left old.wilds.items (y ∷ []) w.0 w.1),
              w.2,
            )) (λ e. inr (d ∙ e)) more)) led;
        whole = whole;
      }

  pub deep-more : (c : ℕ) → new.deep ≡ Some c → old.deep ≡ None → new.literals.items ≡ old.literals.items
      → new.wilds.items ≡ old.wilds.items → new.is_deep ≡ old.is_deep
      → new.is_whole ≡ old.is_whole → old.is_deep ≡ false → front c ≡ front k ++ recursive ∷ [] → LeadsMore o front k c old new
  deep-more c d none ls ws deep whole last is = record {
    node = record {
      literals = subst (All (λ l. (front l.node ≡ front k ++ string_bytes l.text ∷ []) × IsKey o
          (string_bytes l.text))) (sym ls) h.literals;
      ascend = subst AreAscending (sym ls) h.ascend;
      wilds = subst (All (λ w. (front w.node ≡ front k ++ w.pattern ∷ []) × (list_any is_wildcard w.pattern ≡ true) ×
          (is_recursive w.pattern ≡ false))) (sym ws) h.wilds;
      deep = λ e led. (subst (λ m. front m ≡ front k ++ recursive ∷ []) (same_Some c e (sym d ∙ led)) is, deep ∙ last);
      ends = deep ∙ h.ends;
    };
    leads = inr (inr d);
    kept = λ e led. ⊎_elim
        (λ l. inl (l.0, subst (λ xs. Contains xs l.0) (sym ls) l.1, l.2))
        (λ more. inr (⊎_elim (λ w. inl (w.0, subst (λ xs. Contains xs w.0) (sym ws) w.1, w.2))
        (λ s. absurd (none-some e (sym none ∙ s))) more)) led;
    whole = whole;
  }
