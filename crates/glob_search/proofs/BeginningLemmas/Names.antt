-- The names by which literals go on from what is alive.
use Rattle.std.proofs.Common.{◌≡◌, ℕ, ◌+◌, ◌<◌, get_or, take, Bool, true, false, ⊎_elim, Option, None, Some, List, []}
use Rattle.std.proofs.Common.{◌∷◌, ◌++◌, flat_map, length, map, string_bytes, refl, ap, sym, subst, ◌∙◌, arith}
use Rattle.std.specs.Prelude.{Contains, option_map, slice_get, unwrap_or}
use Rattle.std.specs.Borrow.{Bor}
use Rattle.std.specs.Prelude.{nat_eq}
use lib.Pointwise.{pointwise}
use Rattle.std.specs.Cmp.Lexicographic.{slice_cmp, texts_ties}
use Rattle.std.specs.List.{AllPairs, dedup, list_all, list_any}
use Rattle.std.specs.List.Sorted.{IsSorted, IsStrictlySortedBy}
use Rattle.std.specs.Ordering.{nat_cmp}
use Rattle.std.specs.declared.cmp.Ordering.TheVariants.{Less}
use Rattle.std.proofs.lemmas.Bool.{both_ways, not-false}
use Rattle.std.proofs.lemmas.List.Elements.{All-from_recursion, All-map}
use Rattle.std.proofs.lemmas.List.Kept.{AllPairs-cons, Any-dedup, Contains-from_dedup, IsStrictlySortedBy-dedup}
use Rattle.std.proofs.lemmas.Cmp.{nat_list_cmp_total, nat_list_eq_equiv, on_equiv, on_total}
use Rattle.std.proofs.lemmas.List.{append-nil, take_more}
use Rattle.std.proofs.lemmas.List.Concat.{flat_map-append}
use Rattle.std.proofs.lemmas.Slice.Eq.{bytes_eq-Decides}
use Rattle.std.proofs.lemmas.Option.{slice_get_within}
use Rattle.glob_text.specs.Text.{Text}
use Rattle.glob_pattern.specs.Grammar.Characters.{is_wildcard}
use Rattle.glob_tree.specs.Content.{Key}
use Rattle.glob_tree.proofs.ContentLemmas.Membership.{Contains-nil, list_all-contains}
use Rattle.glob_search.specs.Searching.{Aim, alive, is_named, is_listed}
use Rattle.glob_search.specs.Private.Nodes.{AreAlive, AreBeginnings, AreNames, key_of, literal_texts}
use Rattle.glob_search.specs.declared.beginnings.Beginnings.{Beginnings}
use Rattle.glob_search.specs.declared.beginnings.node.Node.{Node}
use Rattle.glob_search.proofs.BeginningLemmas.Keys.{key-sensitive}
use Rattle.glob_search.proofs.BeginningLemmas.Looking.{named-parts, recursive-wild}
use Rattle.glob_search.proofs.BeginningLemmas.Queries.{alive-leads, child-alive, lead-goes, lead-live, tree, within}
use Rattle.glob_search.proofs.BeginningLemmas.Trees.{literal-front, literal-within, wild-front}
use Rattle.glob_search.proofs.OrderLemmas.Parts.{Contains-flat_map, Contains-map, flat_map-contains, map-contains}

-- strictly ascending texts, by references to them
pub strict-pairs : (ys : List (Bor Text)) → IsStrictlySortedBy (λ x y. slice_cmp nat_cmp x.now y.now) ys → AllPairs
    (λ s t. slice_cmp nat_cmp s t ≡ Less) (map (λ y. y.now) ys)
unfolding IsStrictlySortedBy
strict-pairs [] h = λ i j d lt in'. absurd (omega (arith, in'))
strict-pairs (y ∷ ys) h =
    AllPairs-cons (λ s t. slice_cmp nat_cmp s t ≡ Less) y.now (map (λ y. y.now) ys)
    (All-map (λ t. slice_cmp nat_cmp y.now t ≡ Less) (λ y. y.now) ys (All-from_recursion (λ z. slice_cmp nat_cmp y.now
    z.now ≡ Less) ys h.0)) (strict-pairs ys h.1)

texts-there : {A : Type 0} (nodes : List (Node A)) (k : ℕ) (t : Text) → Contains (literal_texts nodes k) t
    → (node : Node A) × (slice_get nodes k ≡ Some node) × Contains (map (λ l. string_bytes l.text) node.literals.items) t
texts-there {A} nodes k t h = by_found (slice_get nodes k) refl h
  where
    by_found : (o : Option (Node A)) → slice_get nodes k ≡ o → Contains (unwrap_or (option_map (λ (n : Node A). map
        (λ l. string_bytes l.text) n.literals.items) o) []) t
        → (node : Node A) × (slice_get nodes k ≡ Some node) × Contains (map (λ l. string_bytes l.text) node.literals.items) t
    by_found None is h = absurd (Contains-nil t h)
    by_found (Some node) is h = (node, is, h)

module _ (a : Aim) (names : Key) {A : Type 0} (b : Beginnings A) (bs : AreBeginnings a.options a.patterns b)
    (numbers : List ℕ) (live : AreAlive b names numbers) (unlisted : is_listed a names ≡ false) where
  parts : (us : List Text) (x : Text) → Contains (alive a names) (us, x) → (a.options.case_sensitive ≡ true) ×
      (list_any is_wildcard x ≡ false)
  parts us x one =
      let h = named-parts a us x (list_all-contains (is_named a.options) (alive a names) (us, x)
      (not-false (list_all (is_named a.options) (alive a names)) unlisted) one) in
      (h.0, h.2)

  each-name : (e : List Text × Text) → Contains (alive a names) e → Contains (flat_map (literal_texts b.nodes.items) numbers) e.1
  each-name e in' =
      let (l, front, next) = alive-leads a names e in' in
      let goes = lead-goes a names b bs numbers live l in
      let known = parts e.0 e.1 in' in
      let key : key_of a.options l.next ≡ e.1 = ap (key_of a.options) next ∙ key-sensitive a.options e.1 known.0 in
      ⊎_elim
      (λ w. let up = w.0 in
      let above = lead-live a names b bs numbers live l up.parent (slice_get_within b.nodes.items up.parent up.node up.at) w.1 in
      ⊎_elim
      (λ m. flat_map-contains (literal_texts b.nodes.items) numbers up.parent e.1 above
      (subst (λ o. Contains (unwrap_or (option_map (λ (n : Node A). map (λ l. string_bytes l.text) n.literals.items) o) []) e.1) (sym up.at)
      (map-contains (λ l. string_bytes l.text) up.node.literals.items m.0 e.1 m.1 (m.2 ∙ w.2 ∙ key))))
      (λ m. absurd (both_ways (list_any is_wildcard e.1) known.1
      (ap (list_any is_wildcard) (sym (m.2 ∙ w.2 ∙ key))
      ∙ (wild-front a.options b.nodes.items bs.front (tree a names b bs numbers live) (within a names b bs numbers
      live) up.parent up.node m.0 up.at m.1).1))) up.leads)
      (λ w. absurd (both_ways (list_any is_wildcard e.1) known.1 (ap (list_any is_wildcard) (sym (w.2 ∙ key)) ∙ recursive-wild))) goes.way

  only-name : (t : Text) → Contains (flat_map (literal_texts b.nodes.items) numbers) t → (front : List Text) × Contains
      (alive a names) (front, t)
  only-name t in' =
      let (k, one, texts) = Contains-flat_map (literal_texts b.nodes.items) numbers t in' in
      let (node, at, there) = texts-there b.nodes.items k t texts in
      let (l, among, is) = Contains-map (λ l. string_bytes l.text) node.literals.items t there in
      let f = child-alive a names b bs numbers live k l.node (string_bytes l.text) one
      (literal-within a.options b.nodes.items bs.front (tree a names b bs numbers live) (within a names b bs numbers
      live) k node l at among)
      (literal-front a.options b.nodes.items bs.front (tree a names b bs numbers live) (within a names b bs numbers
      live) k node l at among).0 in
      let same : f.1 ≡ t = sym (key-sensitive a.options f.1 (parts f.0 f.1 f.2).0) ∙ f.4 ∙ is in
      (f.0, subst (λ x. Contains (alive a names) (f.0, x)) same f.2)

  pub are-names : (texts : List Text) → AllPairs (λ s t. slice_cmp nat_cmp s t ≡ Less) texts
      → ((t : Text) → Contains (flat_map (literal_texts b.nodes.items) numbers) t → Contains texts t)
      → ((t : Text) → Contains texts t → Contains (flat_map (literal_texts b.nodes.items) numbers) t) → AreNames texts (alive a names)
  are-names texts ascend there back = record {
    ascend = ascend;
    each = λ e in'. there e.1 (each-name e in');
    only = λ t in'. only-name t (back t in');
  }

-- the literals of one more number
pub texts-more : {A : Type 0} (nodes : List (Node A)) (numbers : List ℕ) (i : ℕ) → i < length numbers →
    (old new : List Text) → old ≡ flat_map (literal_texts nodes) (take i numbers)
    → new ≡ old ++ literal_texts nodes (get_or numbers i 0) → new ≡ flat_map (literal_texts nodes) (take (i + 1) numbers)
texts-more nodes numbers i lt old new was more =
    more ∙ ap (λ ts. ts ++ literal_texts nodes (get_or numbers i 0)) was
    ∙ ap (λ ts. flat_map (literal_texts nodes) (take i numbers) ++ ts) (sym (append-nil (literal_texts nodes (get_or numbers i 0))))
    ∙ sym (flat_map-append (literal_texts nodes) (take i numbers) (get_or numbers i 0 ∷ []))
    ∙ ap (flat_map (literal_texts nodes)) (sym (take_more numbers i 0 lt))

-- references to texts, each once
abbrev pub same_now : Bor Text → Bor Text → Bool
same_now x y = pointwise nat_eq x.now y.now

pub once-there : (xs : List (Bor Text)) (t : Text) → Contains (map (λ x. x.now) xs) t → Contains (map (λ x. x.now) (dedup same_now xs)) t
once-there xs t in' =
    let (x, one, is) = Contains-map (λ x. x.now) xs t in' in
    let kept = Any-dedup (on_equiv (λ (s : Bor Text). s.now) nat_list_eq_equiv) xs x one in
    map-contains (λ x. x.now) (dedup same_now xs) kept.1 t (kept.0, kept.2, kept.3)
    (sym ((bytes_eq-Decides x.now kept.1.now).0 kept.4) ∙ is)

pub once-back : (xs : List (Bor Text)) (t : Text) → Contains (map (λ x. x.now) (dedup same_now xs)) t → Contains (map (λ x. x.now) xs) t
once-back xs t in' =
    let (x, one, is) = Contains-map (λ x. x.now) (dedup same_now xs) t in' in
    map-contains (λ x. x.now) xs x t (Contains-from_dedup same_now xs x one) is

pub once-ascends : (xs : List (Bor Text)) → IsSorted (λ x y. slice_cmp nat_cmp x.now y.now) xs → AllPairs
    (λ s t. slice_cmp nat_cmp s t ≡ Less) (map (λ x. x.now) (dedup same_now xs))
once-ascends xs sorted = strict-pairs (dedup same_now xs) (IsStrictlySortedBy-dedup (on_total (λ (s : Bor Text). s.now)
    nat_list_cmp_total) (λ x y. texts_ties x.now y.now) xs sorted)
