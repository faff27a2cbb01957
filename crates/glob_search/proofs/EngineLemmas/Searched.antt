-- A name that a binary search over all names of a directory does not find is not there.
use Rattle.std.proofs.Common.{◌≡◌, ◌≢◌, ℕ, zero, suc, ◌⊎◌, ◌-◌, ◌<◌, ◌≤◌, ⊎_elim, false, List, [], ◌∷◌, ◌++◌}
use Rattle.std.proofs.Common.{length, get_or, Option, Some, None, Result, Ok, Err, refl, ap, sym, subst, ◌∙◌}
use Rattle.std.proofs.Common.{arith}
use Rattle.std.specs.Prelude.{Contains, IsTrue, reverse, is_ok}
use Rattle.std.specs.Cmp.Lexicographic.{slice_cmp}
use Rattle.std.specs.List.Sorted.{IsBinarySearchResult, IsNonDecreasingBy}
use Rattle.std.specs.Ordering.{nat_cmp, ordering_index}
use Rattle.std.specs.declared.cmp.Ordering.{Ordering}
use Rattle.std.specs.declared.cmp.Ordering.TheVariants.{Less, Equal, Greater}
use Rattle.std.proofs.Math.Nat.{eq-or-lt_of_le}
use Rattle.std.proofs.lemmas.Bool.{cases_lt}
use Rattle.std.proofs.lemmas.Cmp.{nat_list_cmp_total}
use Rattle.std.proofs.lemmas.List.{get_or-reverse, length-map, length-reverse}
use Rattle.glob_text.specs.Text.{Text}
use Rattle.glob_tree.specs.Answers.{entries_of, names_of}
use Rattle.glob_tree.specs.Content.{Content, Key, children, is_content, is_dir, kind_at, sorted_entries}
use Rattle.glob_tree.specs.declared.kind.Kind.{Kind}
use Rattle.glob_tree.specs.declared.tree.Entry.{Entry}
use Rattle.glob_tree.proofs.ContentLemmas.Contents.{IsContent-from_test, listed_child}
use Rattle.glob_tree.proofs.ContentLemmas.Sorting.{IsRising-sorted_entries, children_apart, sorted_entries-contains}
use Rattle.glob_search.specs.Private.Listings.{names_down}
use Rattle.glob_search.specs.Private.Steps.{IsAbsent}
use Rattle.glob_search.specs.declared.frame.Frame.{Frame}
use Rattle.glob_search.specs.declared.frame.Source.{Source}
use Rattle.glob_search.specs.declared.frame.Source.TheVariants.{LookedUp, Listed, Named}
use Rattle.glob_search.proofs.EngineLemmas.Rising.{IsLess, Rises, equal-same, pairs-from_rises}
use Rattle.glob_search.proofs.EngineLemmas.Rising.{rises-names, same-from_equal}
use Rattle.glob_search.proofs.OrderLemmas.Parts.{map-contains}
use Rattle.std.proofs.lemmas.List.{append_assoc}

-- how a name compares with descending names
index-falls : (name high low : Text) → IsLess low high → ordering_index (slice_cmp nat_cmp name high) ≤ ordering_index
    (slice_cmp nat_cmp name low)
index-falls name high low h = by_answer (slice_cmp nat_cmp name low) refl
  where
    first : slice_cmp nat_cmp name high ≡ Less → (n : ℕ) → ordering_index (slice_cmp nat_cmp name high) ≤ n
    first is n = let zero' : ordering_index (slice_cmp nat_cmp name high) ≡ 0 = ap ordering_index is in omega (arith, zero')

    few : (o : Ordering) → ordering_index o ≤ 2
    few Less = omega arith
    few Equal = omega arith
    few Greater = omega arith

    by_answer : (o : Ordering) → slice_cmp nat_cmp name low ≡ o → ordering_index (slice_cmp nat_cmp name high) ≤
        ordering_index (slice_cmp nat_cmp name low)
    by_answer Less is = first (nat_list_cmp_total.trans name low high is h) (ordering_index (slice_cmp nat_cmp name low))
    by_answer Equal is = first (ap (λ m. slice_cmp nat_cmp m high) (same-from_equal name low is) ∙ h) (ordering_index
        (slice_cmp nat_cmp name low))
    by_answer Greater is =
        let two : ordering_index (slice_cmp nat_cmp name low) ≡ 2 = ap ordering_index is in
        omega (arith, two, few (slice_cmp nat_cmp name high))

-- the names of a directory are descending
falls : (ns : List Text) → Rises ns → (name : Text) (i j : ℕ) → i ≤ j → j < length (reverse ns)
    → ordering_index (slice_cmp nat_cmp name (get_or (reverse ns) i [])) ≤ ordering_index (slice_cmp nat_cmp name
    (get_or (reverse ns) j []))
falls ns up name i j low high = ⊎_elim
    (λ same. let e : ordering_index (slice_cmp nat_cmp name (get_or (reverse ns) i [])) ≡ ordering_index
    (slice_cmp nat_cmp name (get_or (reverse ns) j [])) =
    ap (λ k. ordering_index (slice_cmp nat_cmp name (get_or (reverse ns) k []))) same in omega (arith, e))
    (λ lt.
    let long : length (reverse ns) ≡ length ns = length-reverse ns in
    let one = get_or-reverse ns i [] (omega (arith, lt, high, long)) in
    let two = get_or-reverse ns j [] (omega (arith, high, long)) in
    let less : IsLess (get_or (reverse ns) j []) (get_or (reverse ns) i []) =
    subst (λ m. IsLess m (get_or (reverse ns) i [])) (sym two) (subst (IsLess (get_or ns (length ns - 1 - j) [])) (sym one)
    (pairs-from_rises ns up (length ns - 1 - j) (length ns - 1 - i) [] (omega (arith, lt, high, long)) (omega (arith, lt, high, long)))) in
    index-falls name (get_or (reverse ns) i []) (get_or (reverse ns) j []) less)
    (eq-or-lt_of_le low)

names-at : {A : Type 0} (es : List (Entry A)) (k : ℕ) (d : Entry A) (m : Text) → k < length es → get_or
    (names_of (entries_of es)) k m ≡ (get_or es k d).name
names-at [] k d m h = absurd (omega (arith, h))
names-at (e ∷ es) zero d m h = refl
names-at (e ∷ es) (suc k) d m h = names-at es k d m (omega (arith, h))

entry-at : {A : Type 0} (es : List (Entry A)) (k : ℕ) → k < length es → (e : Entry A) × (get_or es k e ≡ e)
entry-at [] k h = absurd (omega (arith, h))
entry-at (e ∷ es) zero h = (e, refl)
entry-at (e ∷ es) (suc k) h = entry-at es k (omega (arith, h))

names-long : {A : Type 0} (es : List (Entry A)) → length (names_of (entries_of es)) ≡ length es
names-long es = simp length-map

reverse-contains : {X : Type 0} (xs : List X) (x : X) → Contains xs x → Contains (reverse xs) x
reverse-contains xs x (k, lt, is) =
    let long : length (reverse xs) ≡ length xs = length-reverse xs in
    let back : length xs - 1 - (length xs - 1 - k) ≡ k = omega (arith, lt) in (
      length xs - 1 - k,
      omega (arith, lt, long),
      get_or-reverse xs (length xs - 1 - k) x (omega (arith, lt)) ∙ ap
          (λ n. get_or xs n x) back ∙ is,
    )

pub absent-from_search : {A : Type 0} (f : Frame A) (name : Text) (r : Result ℕ ℕ) → is_ok r ≡ false
    → IsBinarySearchResult (λ e. slice_cmp nat_cmp name e.name) f.entries.items r → f.source ≢ LookedUp → IsAbsent f name
absent-from_search {A} f name (Ok i) none found known = absurd (cc)
absent-from_search {A} f name (Err i) none found known = record {
  known = known;
  absent = λ c names content order. by_kind c names content order (kind_at c (c.current ++ (names ++ name ∷ []))) refl;
}
  where
    by_kind : (c : Content) (names : Key) → IsTrue (is_content c) → names_of (entries_of f.entries.items) ≡ names_down c names
        → (o : Option Kind) → kind_at c (c.current ++ (names ++ name ∷ [])) ≡ o → o ≡ None
    by_kind c names content order None is = refl
    by_kind c names content order (Some kind) is =
        let w = IsContent-from_test c content in
        let k = c.current ++ names in
        let held : kind_at c (k ++ name ∷ []) ≡ Some kind = ap (kind_at c) (append_assoc c.current names (name ∷ [])) ∙ is in
        let ns = names_of (sorted_entries (children c k)) in
        let up : Rises ns = rises-names (sorted_entries (children c k)) (IsRising-sorted_entries (children c k) (children_apart c w k)) in
        let in' : Contains ns name = map-contains (λ e. e.0) (sorted_entries (children c k)) (name, is_dir kind) name
        (sorted_entries-contains (children c k) (name, is_dir kind) (listed_child c k name kind held)) refl in
        let (p, lt, at) = subst (λ ms. Contains ms name) (sym order) (reverse-contains ns name in') in
        let rises : IsNonDecreasingBy (λ e. ordering_index (slice_cmp nat_cmp name e.name)) f.entries.items = λ a b d low high.
        let long : length (names_of (entries_of f.entries.items)) ≡ length f.entries.items = names-long f.entries.items in
        let down : length (reverse ns) ≡ length f.entries.items = ap length (sym order) ∙ long in
        let one : get_or (reverse ns) a [] ≡ (get_or f.entries.items a d).name = ap (λ ms. get_or ms a []) (sym order)
        ∙ names-at f.entries.items a d [] (omega (arith, low, high)) in
        let two : get_or (reverse ns) b [] ≡ (get_or f.entries.items b d).name = ap (λ ms. get_or ms b []) (sym order)
        ∙ names-at f.entries.items b d [] high in
        subst (λ m. ordering_index (slice_cmp nat_cmp name m) ≤ ordering_index (slice_cmp nat_cmp name
        (get_or f.entries.items b d).name)) one
        (subst (λ m. ordering_index (slice_cmp nat_cmp name (get_or (reverse ns) a [])) ≤ ordering_index (slice_cmp nat_cmp name m)) two
        (falls ns up name a b low (omega (arith, high, down)))) in
        let parts = found rises in
        let within : p < length f.entries.items = omega (arith, lt, names-long f.entries.items) in
        let (e, here) = entry-at f.entries.items p within in
        let named : (get_or f.entries.items p e).name ≡ name = sym (names-at f.entries.items p e name within) ∙ at in
        let equal : slice_cmp nat_cmp name (get_or f.entries.items p e).name ≡ Equal = ap (slice_cmp nat_cmp name)
        named ∙ equal-same name in
        absurd (⊎_elim (λ lt'. not_less (sym equal ∙ parts.0 p e (omega arith) lt')) (λ ge. not_greater
        (sym equal ∙ parts.1 p e ge within)) (cases_lt p i))
      where
        not_less : Equal ≡ Less → ⊥
        not_less h = cc

        not_greater : Equal ≡ Greater → ⊥
        not_greater h = cc

pub not-looked_up : (s : Source) → (s ≡ Listed) ⊎ (s ≡ Named) → s ≢ LookedUp
not-looked_up s is same = ⊎_elim (λ h. listed h) (λ h. named h) is
  where
    listed : s ≡ Listed → ⊥
    listed h = cc

    named : s ≡ Named → ⊥
    named h = cc
