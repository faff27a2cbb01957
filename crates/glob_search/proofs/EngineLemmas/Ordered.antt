-- The entries of a directory in descending order of names.
use Rattle.std.proofs.Common.{◌≡◌, ◌+◌, ◌-◌, ◌<◌, Bool, false, List, [], ◌∷◌, ◌++◌}
use Rattle.std.proofs.Common.{length, get_or, map, refl, ap, sym, subst, ◌∙◌, arith}
use Rattle.std.specs.Prelude.{bytes_eq, reverse}
use Rattle.std.specs.List.{IsDistinct, dedup, dedup_from}
use Rattle.std.specs.List.Sorted.{IsPermutation, IsSortedBy, IsSortedByKey}
use Rattle.std.specs.Cmp.{IsStrictWeakOrder}
use Rattle.std.specs.Cmp.Lexicographic.{slice_cmp}
use Rattle.std.specs.Ordering.{is_lt, nat_cmp}
use Rattle.std.proofs.lemmas.Bool.{cond-false}
use Rattle.std.proofs.lemmas.Cmp.{nat_list_cmp_total, nat_list_eq_equiv}
use Rattle.std.proofs.lemmas.List.{get_or-map, get_or-reverse, length-map, length-reverse, reverse-reverse}
use Rattle.std.proofs.lemmas.List.Elements.{recursion_from_All, All-from_recursion, All-contains}
use Rattle.std.proofs.lemmas.List.Sorted.{IsPermutation-map, IsPermutation-reverse, IsPermutation-trans, ranks_by}
use Rattle.std.proofs.lemmas.Map.Keys.{IsDistinct-IsPermutation}
use Rattle.std.proofs.lemmas.Slice.Eq.{bytes_eq-Decides}
use Rattle.std.proofs.lemmas.Bool.{false_from_ne_true}
use Rattle.glob_text.specs.Text.{Text}
use Rattle.glob_tree.specs.Answers.{entries_of, names_of}
use Rattle.glob_tree.specs.Content.{Content, DirEntry, Key, children, sorted_entries}
use Rattle.glob_tree.specs.declared.tree.Entry.{Entry}
use Rattle.glob_tree.proofs.ContentLemmas.Contents.{IsContent}
use Rattle.glob_tree.proofs.ContentLemmas.Membership.{All-from_contains, Contains-head}
use Rattle.glob_tree.proofs.ContentLemmas.Names.{names_in_order}
use Rattle.glob_tree.proofs.ContentLemmas.Sorting.{AreApart, children_apart}
use Rattle.glob_search.specs.Private.Listings.{names_down}
use Rattle.glob_search.proofs.EngineLemmas.Lasts.{map-reverse}
use Rattle.glob_search.proofs.OrderLemmas.Parts.{Contains-map}

-- the order of a descending sort
abbrev pub falls : {A : Type 0} → Entry A → Entry A → Bool
falls x y = is_lt (slice_cmp nat_cmp y.name x.name)

-- the result of a descending sort, read from its end, ascends
sorted-back : {A : Type 0} (xs : List (Entry A)) → IsSortedBy falls xs → IsSortedByKey (λ e. e.name) (slice_cmp nat_cmp) (reverse xs)
sorted-back xs up k d low high =
    let long : length (reverse xs) ≡ length xs = length-reverse xs in
    let j = length xs - 1 - (k + 1) in
    let next : j + 1 ≡ length xs - 1 - k = omega (arith, high, long) in
    ap (λ x. is_lt (slice_cmp nat_cmp x.name (get_or (reverse xs) k d).name)) (get_or-reverse xs (k + 1) d (omega (arith, high, long)))
    ∙ ap (λ x. is_lt (slice_cmp nat_cmp (get_or xs j d).name x.name)) (get_or-reverse xs k d
    (omega (arith, high, long)) ∙ ap (λ n. get_or xs n d) (sym next))
    ∙ up j d (omega arith) (omega (arith, high, long))

sorted-entries : {A : Type 0} (es : List (Entry A)) → IsSortedByKey (λ e. e.name) (slice_cmp nat_cmp) es
    → IsSortedByKey (λ e. e.0) (slice_cmp nat_cmp) (entries_of es)
sorted-entries {A} [] up k d low high = absurd (omega (arith, high))
sorted-entries {A} (e ∷ es) up k d low high =
    let f : Entry A → DirEntry = λ x. (x.name, x.is_dir) in
    let within : k + 1 < length (e ∷ es) = simp length-map at high in
    let later = get_or-map f (e ∷ es) (k + 1) e d within in
    let first = get_or-map f (e ∷ es) k e d (omega (arith, within)) in
    ap (λ x. is_lt (slice_cmp nat_cmp x.0 (get_or (map f (e ∷ es)) k d).0)) later
    ∙ ap (λ x. is_lt (slice_cmp nat_cmp (get_or (e ∷ es) (k + 1) e).name x.0)) first
    ∙ up k e low within

pub names-back : {A : Type 0} (es : List (Entry A)) → names_of (entries_of (reverse es)) ≡ reverse (names_of (entries_of es))
names-back {A} es =
    let f : Entry A → DirEntry = λ x. (x.name, x.is_dir) in
    let n : DirEntry → Text = λ e. e.0 in
    ap (map n) (map-reverse f es) ∙ map-reverse n (entries_of es)

-- distinct names stay distinct in any order
distinct-names : (es : List DirEntry) → AreApart es → IsDistinct bytes_eq (names_of es)
unfolding IsDistinct
distinct-names [] apart = tt
distinct-names (e ∷ es) apart = (
  recursion_from_All (λ m. bytes_eq e.0 m ≡ false) (names_of es) (All-from_contains (λ m. bytes_eq e.0 m ≡ false) (names_of es) (λ m in'.
      let (f, there, is) = Contains-map (λ f. f.0) es m in' in
      false_from_ne_true (bytes_eq e.0 m) (λ t. apart.0 f there ((bytes_eq-Decides e.0 m).0 t ∙ sym is)))),
  distinct-names es apart.1,
)

abbrev pub same_name : {A : Type 0} → Entry A → Entry A → Bool
same_name x y = bytes_eq x.name y.name

-- if names are distinct, nothing is there twice
dedup_from-distinct : {A : Type 0} (k : Entry A) (es : List (Entry A)) → IsDistinct bytes_eq
    (names_of (entries_of (k ∷ es))) → dedup_from same_name k es ≡ k ∷ es
unfolding IsDistinct
dedup_from-distinct k [] h = refl
dedup_from-distinct k (e ∷ es) h =
    let apart : bytes_eq k.name e.name ≡ false =
    All-contains (λ m. bytes_eq k.name m ≡ false) (names_of (entries_of (e ∷ es))) e.name
    (All-from_recursion (λ m. bytes_eq k.name m ≡ false) (names_of (entries_of (e ∷ es))) h.0) (Contains-head e.name
    (names_of (entries_of es))) in
    cond-false (same_name e k) (dedup_from same_name k es) (k ∷ dedup_from same_name e es) (nat_list_eq_equiv.symm e.name k.name ∙ apart)
    ∙ ap (λ fs. k ∷ fs) (dedup_from-distinct e es h.1)

dedup-distinct : {A : Type 0} (es : List (Entry A)) → IsDistinct bytes_eq (names_of (entries_of es)) → dedup same_name es ≡ es
dedup-distinct [] h = refl
dedup-distinct (e ∷ es) h = dedup_from-distinct e es h

pub ordered : {A : Type 0} (c : Content) → IsContent c → (names : Key) (es sorted made : List (Entry A))
    → IsPermutation (names_of (children c (c.current ++ names))) (names_of (entries_of es)) → IsPermutation es sorted
    → IsSortedBy falls sorted
    → made ≡ dedup same_name sorted → IsPermutation es made × (names_of (entries_of made) ≡ names_down c names)
ordered {A} c w names es sorted made all moved down is =
    let k = c.current ++ names in
    let f : Entry A → DirEntry = λ x. (x.name, x.is_dir) in
    let n : DirEntry → Text = λ e. e.0 in
    let apart = children_apart c w k in
    let by_name = IsPermutation-map n (entries_of es) (entries_of sorted) (IsPermutation-map f es sorted moved) in
    let whole = IsPermutation-trans (names_of (children c k)) (names_of (entries_of es)) (names_of (entries_of sorted)) all by_name in
    let distinct = IsDistinct-IsPermutation bytes_eq nat_list_eq_equiv.symm (names_of (children c k))
    (names_of (entries_of sorted)) whole (distinct-names (children c k) apart) in
    let same : made ≡ sorted = is ∙ dedup-distinct sorted distinct in
    let turned : IsPermutation (names_of (entries_of sorted)) (names_of (entries_of (reverse sorted))) =
    subst (IsPermutation (names_of (entries_of sorted))) (sym (names-back sorted)) (IsPermutation-reverse (names_of (entries_of sorted))) in
    let order : names_of (entries_of (reverse sorted)) ≡ names_of (sorted_entries (children c k)) =
    names_in_order (children c k) (entries_of (reverse sorted)) apart
    (IsPermutation-trans (names_of (children c k)) (names_of (entries_of sorted)) (names_of (entries_of (reverse sorted))) whole turned)
    (sorted-entries (reverse sorted) (sorted-back sorted down)) in (
      subst (IsPermutation es) (sym same) moved,
      ap (λ fs. names_of (entries_of fs)) same ∙ sym (reverse-reverse (names_of (entries_of sorted))) ∙ ap reverse
          (sym (names-back sorted) ∙ order),
    )

-- the descending order is unique
pub falls-ranks : {A : Type 0} → IsStrictWeakOrder (falls {A = A})
falls-ranks {A} =
    let up = ranks_by nat_list_cmp_total (λ (e : Entry A). e.name) in
    record { one_way = λ x y h. up.one_way y x h; chain = λ x y z h k. up.chain z y x k h }
