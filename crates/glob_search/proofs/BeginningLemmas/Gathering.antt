-- Sets of components with wildcards: they change nothing in a tree, and say which components match.
use Rattle.std.proofs.Common.{◌≡◌, ℕ, zero, suc, ◌<◌, ◌≤◌, ⊎_elim, Bool, true, false, List, [], ◌∷◌}
use Rattle.std.proofs.Common.{◌++◌, length, map, get_or, set, Option, None, Some, refl, ap, sym, subst, ◌∙◌, arith}
use Rattle.std.specs.Borrow.{Bor}
use Rattle.std.specs.Option.{IfSome, MatchOption}
use Rattle.std.specs.Prelude.{Contains, option_copied, slice_get}
use Rattle.std.specs.Str.{chars}
use Rattle.std.proofs.lemmas.Bool.{both_ways, cond-false, cond-true}
use Rattle.std.proofs.lemmas.List.{get_or-map, length-map, length-set}
use Rattle.std.proofs.lemmas.List.Elements.{Contains-append_left, Contains-push, Contains-push_cases}
use Rattle.std.proofs.lemmas.Option.{get_or_from_slice_get, same_Some, slice_get_past, slice_get_read, slice_get_within}
use Rattle.glob_text.specs.Text.{Text}
use Rattle.glob_pattern.specs.Computing.Deciding.{is_match}
use Rattle.glob_pattern.specs.declared.options.MatchOptions.{MatchOptions}
use Rattle.glob_set.specs.Sets.{all_matches, matches_below}
use Rattle.glob_search.specs.Private.Nodes.{Adds, AreBeginnings, Enlivens, IsNode, IsTree, LeadsTo, WildStep}
use Rattle.glob_search.specs.declared.beginnings.Beginnings.{Beginnings}
use Rattle.glob_search.specs.declared.beginnings.node.Node.{Node}
use Rattle.glob_search.specs.declared.beginnings.node.Wild.{Wild}
use Rattle.glob_search.proofs.BeginningLemmas.Adding.{Adds-same}
use Rattle.glob_search.proofs.BeginningLemmas.Growing.{get-set-other, get-set-same, is-or, mark-tree}

-- one node has another set
pub beginnings-gathered : {A : Type 0} (o : MatchOptions) (patterns : List Text) (b c : Beginnings A) (at : ℕ) (node changed : Node A)
    → c.options ≡ b.options → c.nodes.items ≡ set b.nodes.items at changed → slice_get b.nodes.items at ≡ Some node
    → ((front : ℕ → List Text) → IsNode b.options front at node → IsNode b.options front at changed)
    → ((d : ℕ) → LeadsTo node d → LeadsTo changed d) → changed.is_whole ≡ node.is_whole
    → AreBeginnings o patterns b → AreBeginnings o patterns c
beginnings-gathered {A} o patterns b c at node changed same items is keeps leads whole h = record {
  options = same ∙ h.options;
  front = h.front;
  tree = subst (λ o'. IsTree o' c.nodes.items h.front) (sym same) (subst (λ ns. IsTree b.options ns h.front) (sym items)
      (mark-tree b.options nodes h.front h.tree at node changed is (keeps h.front (h.tree.each at node is)) leads));
  utf8 = h.utf8;
  begun = λ k lt. h.begun k (omega (arith, lt, ap length items, length-set nodes at changed));
  whole = λ k other found marked. ⊎_elim
      (λ here.
      let is' : changed ≡ other = same_Some changed other (sym here-now ∙ ap (slice_get (set nodes at changed)) (sym here)
      ∙ ap (λ ns. slice_get ns k) (sym items) ∙ found) in
      h.whole k node (ap (slice_get nodes) here ∙ is) (sym whole ∙ ap (λ (n : Node A). n.is_whole) is' ∙ marked))
      (λ ne. h.whole k other (sym (get-set-other nodes at k changed ne) ∙ ap (λ ns. slice_get ns k) (sym items) ∙ found) marked)
      (is-or k at);
  each = λ ts in'.
      let e = h.each ts in' in
      ⊎_elim
      (λ here. (
        at,
        changed,
        ap (λ ns. slice_get ns at) items ∙ here-now,
        whole ∙ ap (λ (n : Node A). n.is_whole) (same_Some node e.1 (sym is ∙ ap (slice_get nodes) (sym here) ∙ e.2)) ∙ e.3,
        ap h.front (sym here) ∙ e.4,
      ))
      (λ ne. (e.0, e.1, ap (λ ns. slice_get ns e.0) items ∙ get-set-other nodes at e.0 changed ne ∙ e.2, e.3, e.4))
      (is-or e.0 at);
}
  where
    nodes : List (Node A)
    nodes = b.nodes.items

    here-now : slice_get (set nodes at changed) at ≡ Some changed
    here-now = get-set-same nodes at changed (slice_get_within nodes at node is)

module _ (o : MatchOptions) (patterns : List Text) (text : Text) where
  abbrev takes-at : ℕ → Bool
  takes-at k = is_match o (chars (get_or patterns k [])) (chars text)

  below-only : (n k : ℕ) → Contains (matches_below o patterns text n) k → (k < n) × (takes-at k ≡ true)
  below-only zero k in' = absurd (omega (arith, in'.1))
  below-only (suc n) k in' = by_test (below-only n k) (takes-at n) refl
    where
      before : List ℕ
      before = matches_below o patterns text n

      more : (k < n) × (takes-at k ≡ true) → (k < suc n) × (takes-at k ≡ true)
      more p = (omega (arith, p.0), p.1)

      by_test : (Contains before k → (k < n) × (takes-at k ≡ true)) → (b : Bool) → takes-at n ≡ b → (k < suc n) × (takes-at k ≡ true)
      by_test less true is = ⊎_elim
          (λ old. more (less old))
          (λ new. (omega (arith, new), ap takes-at (sym new) ∙ is))
          (Contains-push_cases before n k (subst (λ xs. Contains xs k) (cond-true (takes-at n) (before ++ n ∷ []) before is) in'))
      by_test less false is = more (less (subst (λ xs. Contains xs k) (cond-false (takes-at n) (before ++ n ∷ []) before is) in'))

  below-all : (n k : ℕ) → k < n → takes-at k ≡ true → Contains (matches_below o patterns text n) k
  below-all zero k lt fits = absurd (omega (arith, lt))
  below-all (suc n) k lt fits = by_test (below-all n k) (takes-at n) refl
    where
      before : List ℕ
      before = matches_below o patterns text n

      by_test : (k < n → takes-at k ≡ true → Contains before k) → (b : Bool) → takes-at n ≡ b
          → Contains (matches_below o patterns text (suc n)) k
      by_test less true is = subst (λ xs. Contains xs k) (sym (cond-true (takes-at n) (before ++ n ∷ []) before is)) (⊎_elim
          (λ same. subst (Contains (before ++ n ∷ [])) (sym same) (Contains-push before n))
          (λ ne. Contains-append_left before (n ∷ []) k (less (omega (arith, lt, ne)) fits)) (is-or k n))
      by_test less false is = subst (λ xs. Contains xs k) (sym (cond-false (takes-at n) (before ++ n ∷ []) before is)) (⊎_elim
          (λ same. absurd (both_ways (takes-at n) is (ap takes-at (sym same) ∙ fits)))
          (λ ne. less (omega (arith, lt, ne)) fits) (is-or k n))

  -- the numbers in a set's answer are the numbers of the patterns that match
  pub matches-only : (k : ℕ) → Contains (all_matches o patterns text) k → (k < length patterns) × (takes-at k ≡ true)
  unfolding all_matches
  matches-only k in' = below-only (length patterns) k in'

  pub matches-all : (k : ℕ) → k < length patterns → takes-at k ≡ true → Contains (all_matches o patterns text) k
  unfolding all_matches
  matches-all k lt fits = below-all (length patterns) k lt fits

-- what is read at an index is the element there, if there is one
pub read-at : {X : Type 0} (Q : Bor X → Type 0) (xs : List X) (i : ℕ) (r : Option (Bor X))
    → MatchOption r (length xs ≤ i) (λ x. (i < length xs) × Q x) → IfSome r (λ x. x.now ≡ get_or xs i x.now)
    → slice_get xs i ≡ option_copied r
read-at Q xs i None past is = slice_get_past xs i past
read-at Q xs i (Some x) found is = slice_get_read xs (length xs) i x.now refl found.0 is

-- the answer of a set adds what the matching components add
pub wild-steps : {A : Type 0} (nodes : List (Node A)) (o : MatchOptions) (name : Text) (wilds : List (Wild A)) (by : MatchOptions)
    (patterns : List Text) (numbers : List ℕ) → by ≡ o → patterns ≡ map (λ w. w.pattern) wilds
    → numbers ≡ all_matches by patterns name → (old new : List ℕ)
    → Adds (λ k. (n : ℕ) × Contains numbers n × ((w : Wild A) × (slice_get wilds n ≡ Some w) × Enlivens nodes w.node k)) old new
    → Adds (WildStep nodes o name wilds) old new
wild-steps {A} nodes o name wilds by patterns numbers same are is old new a = Adds-same old new there back a
  where
    texts : List Text
    texts = map (λ (w : Wild A). w.pattern) wilds

    answer : numbers ≡ all_matches o texts name
    answer = is ∙ ap (λ x. all_matches x patterns name) same ∙ ap (λ ps. all_matches o ps name) are

    long : length texts ≡ length wilds
    long = length-map wilds (λ (w : Wild A). w.pattern)

    text-at : (n : ℕ) (w : Wild A) → n < length wilds → get_or wilds n w ≡ w → get_or texts n [] ≡ w.pattern
    text-at n w lt here = get_or-map (λ (x : Wild A). x.pattern) wilds n w [] lt ∙ ap (λ (x : Wild A). x.pattern) here

    there : (k : ℕ) → (n : ℕ) × Contains numbers n × ((w : Wild A) × (slice_get wilds n ≡ Some w) × Enlivens nodes w.node k)
        → WildStep nodes o name wilds k
    there k (n, in', (w, at, e)) =
        let matched = matches-only o texts name n (subst (λ xs. Contains xs n) answer in') in
        let lt : n < length wilds = slice_get_within wilds n w at in
        let here : get_or wilds n w ≡ w = get_or_from_slice_get wilds n w w at in
        (w, (n, lt, here), (ap (λ t. is_match o (chars t) (chars name)) (sym (text-at n w lt here)) ∙ matched.1, e))

    back : (k : ℕ) → WildStep nodes o name wilds k
        → (n : ℕ) × Contains numbers n × ((w : Wild A) × (slice_get wilds n ≡ Some w) × Enlivens nodes w.node k)
    back k (w, (n, lt, here), (fits, e)) = (
      n,
      subst (λ xs. Contains xs n) (sym answer) (matches-all o texts name n (omega (arith, lt, long))
          (ap (λ t. is_match o (chars t) (chars name)) (text-at n w lt here) ∙ fits)),
      (w, slice_get_read wilds (length wilds) n w refl lt (sym here), e),
    )
