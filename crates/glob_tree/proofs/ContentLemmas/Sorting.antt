-- The entries of a directory have one ascending order.
use Rattle.std.proofs.Common.{◌≡◌, ◌≢◌, suc, ◌+◌, Bool, true, false, cond, ◌⊎◌, inl, inr, ⊎_elim, List, [], ◌∷◌, refl}
use Rattle.std.proofs.Common.{ap, sym, subst, ◌∙◌, arith}
use Rattle.std.specs.Prelude.{Contains, bytes_eq, filter_map, not, ◌++◌, Option, Some, None, ⊤}
use Rattle.std.specs.List.{IsDistinct, list_any, cons_option}
use Rattle.std.specs.List.Sorted.{IsPermutation, IsSortedByKey}
use Rattle.std.specs.Cmp.Lexicographic.{slice_cmp}
use Rattle.std.specs.Ordering.{nat_cmp, is_lt, is_le, is_eq, ordering_reverse}
use Rattle.std.specs.declared.cmp.Ordering.{Ordering}
use Rattle.std.specs.declared.cmp.Ordering.TheVariants.{Less, Equal, Greater}
use Rattle.std.proofs.lemmas.Cmp.{nat_list_cmp_total, nat_list_eq_equiv}
use Rattle.std.proofs.lemmas.List.Sorted.{IsPermutation-sym, Contains-permutation, sorted_far, ranks_by}
use Rattle.std.proofs.lemmas.Map.Text.{is_eq-slice_cmp}
use Rattle.std.proofs.lemmas.Slice.Eq.{bytes_eq-Decides}
use Rattle.std.proofs.lemmas.Bool.{and_parts, not-true, cond-true, cond-false, both_ways, false_from_ne_true}
use Rattle.std.proofs.lemmas.List.Elements.{All-contains, All-from_recursion, recursion_from_All}
use Rattle.std.proofs.lemmas.Map.Keys.{IsDistinct-IsPermutation}
use Rattle.glob_tree.specs.declared.kind.Kind.{Kind}
use Rattle.glob_tree.proofs.ContentLemmas.Contents.{IsContent, child_entry_is, same_key-Decides}
use Rattle.glob_tree.specs.Content.{Content, Key, same_key, are_distinct, child_entry, children, DirEntry, is_before}
use Rattle.glob_tree.specs.Content.{insert_entry, sorted_entries}
use Rattle.glob_tree.proofs.ContentLemmas.Membership.{Contains-filter_map, list_any-contains, All-from_contains}
use Rattle.glob_tree.proofs.ContentLemmas.Membership.{Contains-head, Contains-tail, Contains-cases, Contains-nil}

pub Contains-insert_entry : (e : DirEntry) (es : List DirEntry) (x : DirEntry) → Contains (insert_entry e es) x → (e ≡ x) ⊎ Contains es x
Contains-insert_entry e [] x h = Contains-cases e [] x h
Contains-insert_entry e (f ∷ es) x h = by_test (is_before e f) h (λ later. Contains-insert_entry e es x later)
  where
    by_test : (b : Bool) → Contains (cond b (e ∷ f ∷ es) (f ∷ insert_entry e es)) x → (Contains (insert_entry e es) x →
        (e ≡ x) ⊎ Contains es x) → (e ≡ x) ⊎ Contains (f ∷ es) x
    by_test true h further = Contains-cases e (f ∷ es) x h
    by_test false h further = ⊎_elim
        (λ same. inr (0, omega arith, same))
        (λ later. ⊎_elim inl (λ in'. inr (Contains-tail f es x in')) (further later))
        (Contains-cases f (insert_entry e es) x h)

-- sorting adds no entry
pub Contains-sorted_entries : (es : List DirEntry) (x : DirEntry) → Contains (sorted_entries es) x → Contains es x
Contains-sorted_entries [] x h = h
Contains-sorted_entries (e ∷ es) x h = ⊎_elim
    (λ same. (0, omega arith, same))
    (λ later. Contains-tail e es x (Contains-sorted_entries es x later))
    (Contains-insert_entry e (sorted_entries es) x h)

pub insert_entry-contains : (e : DirEntry) (es : List DirEntry) (x : DirEntry) → Contains (e ∷ es) x → Contains (insert_entry e es) x
insert_entry-contains e [] x h = h
insert_entry-contains e (f ∷ es) x h = by_test (is_before e f) h (λ later. insert_entry-contains e es x later)
  where
    by_test : (b : Bool) → Contains (e ∷ f ∷ es) x → (Contains (e ∷ es) x → Contains (insert_entry e es) x) → Contains
        (cond b (e ∷ f ∷ es) (f ∷ insert_entry e es)) x
    by_test true h further = h
    by_test false h further = ⊎_elim
        (λ same. Contains-tail f (insert_entry e es) x (further (0, omega arith, same)))
        (λ later. ⊎_elim
        (λ same. (0, omega arith, same))
        (λ in'. Contains-tail f (insert_entry e es) x (further (Contains-tail e es x in')))
        (Contains-cases f es x later))
        (Contains-cases e (f ∷ es) x h)

pub sorted_entries-contains : (es : List DirEntry) (x : DirEntry) → Contains es x → Contains (sorted_entries es) x
sorted_entries-contains [] x h = h
sorted_entries-contains (e ∷ es) x h = insert_entry-contains e (sorted_entries es) x (⊎_elim
    (λ same. (0, omega arith, same))
    (λ later. Contains-tail e (sorted_entries es) x (sorted_entries-contains es x later))
    (Contains-cases e es x h))

-- e is before f, by the bytes of their names
abbrev Before : DirEntry → DirEntry → Type 0
Before e f = slice_cmp nat_cmp e.0 f.0 ≡ Less

-- each entry is before the entries after it
abbrev pub IsRising : List DirEntry → Type 0
IsRising [] = ⊤
IsRising (e ∷ es) = ((f : DirEntry) → Contains es f → Before e f) × IsRising es

-- no two entries have the same name
abbrev pub AreApart : List DirEntry → Type 0
AreApart [] = ⊤
AreApart (e ∷ es) = ((f : DirEntry) → Contains es f → e.0 ≢ f.0) × AreApart es

not_both : (e f : DirEntry) → Before e f → Before f e → ⊥
not_both e f h g =
    let same : Less ≡ Greater = sym h ∙ (nat_list_cmp_total.antisymm e.0 f.0 ∙ ap ordering_reverse g) in
    less_is_not_greater same
  where
    less_is_not_greater : Less ≡ Greater → ⊥
    less_is_not_greater same = cc

not_itself : (e : DirEntry) → Before e e → ⊥
not_itself e h = not_both e e h h

Before-trans : (e f g : DirEntry) → Before e f → Before f g → Before e g
Before-trans e f g h k = nat_list_cmp_total.trans e.0 f.0 g.0 h k

-- of two different names, one is before the other
by_order : {P : Type 0} (e f : DirEntry) → e.0 ≢ f.0 → (is_before e f ≡ true → Before e f → P) → (is_before e f ≡ false
    → Before f e → P) → P
by_order {P} e f n first then = by_answer (slice_cmp nat_cmp e.0 f.0) refl
  where
    by_answer : (o : Ordering) → slice_cmp nat_cmp e.0 f.0 ≡ o → P
    by_answer Less h = first (ap is_le h) h
    by_answer Equal h = absurd (n ((bytes_eq-Decides e.0 f.0).0 (sym (is_eq-slice_cmp e.0 f.0) ∙ ap is_eq h)))
    by_answer Greater h = then (ap is_le h) (nat_list_cmp_total.antisymm f.0 e.0 ∙ ap ordering_reverse h)

-- two ascending lists of the same entries are equal
pub one_order : (es fs : List DirEntry) → IsRising es → IsRising fs → ((x : DirEntry) → Contains es x → Contains fs x)
    → ((x : DirEntry) → Contains fs x → Contains es x) → es ≡ fs
one_order [] [] a b into back = refl
one_order [] (f ∷ fs) a b into back = absurd (Contains-nil f (back f (Contains-head f fs)))
one_order (e ∷ es) [] a b into back = absurd (Contains-nil e (into e (Contains-head e es)))
one_order (e ∷ es) (f ∷ fs) a b into back =
    let same : e ≡ f = ⊎_elim (λ s. sym s) (λ behind. ⊎_elim (λ s. s) (λ ahead. absurd (not_both f e (b.0 e behind) (a.0 f ahead)))
    (Contains-cases e es f (back f (Contains-head f fs)))) (Contains-cases f fs e (into e (Contains-head e es))) in
    let rest : es ≡ fs = one_order es fs a.1 b.1
    (λ x in'. ⊎_elim (λ s. absurd (not_itself x (subst (λ y. Before y x) (same ∙ s) (a.0 x in')))) (λ later. later)
    (Contains-cases f fs x (into x (Contains-tail e es x in'))))
    (λ x in'. ⊎_elim (λ s. absurd (not_itself x (subst (λ y. Before y x) (sym same ∙ s) (b.0 x in')))) (λ later. later)
    (Contains-cases e es x (back x (Contains-tail f fs x in')))) in
    λ i. same i ∷ rest i

IsRising-insert_entry : (e : DirEntry) (es : List DirEntry) → ((f : DirEntry) → Contains es f → e.0 ≢ f.0)
    → IsRising es → IsRising (insert_entry e es)
IsRising-insert_entry e [] n up = ((λ f in'. absurd (Contains-nil f in')), tt)
IsRising-insert_entry e (f ∷ es) n up = by_order e f (n f (Contains-head f es))
    (λ t h. subst IsRising (sym (cond-true (is_before e f) (e ∷ f ∷ es) (f ∷ insert_entry e es) t))
    ((λ g in'. ⊎_elim (λ same. subst (Before e) same h) (λ later. Before-trans e f g h (up.0 g later)) (Contains-cases f es g in')), up))
    (λ t h. subst IsRising (sym (cond-false (is_before e f) (e ∷ f ∷ es) (f ∷ insert_entry e es) t)) (
      (λ g in'. ⊎_elim (λ same. subst (Before f) same h) (λ later. up.0 g later) (Contains-insert_entry e es g in')),
      IsRising-insert_entry e es (λ g in'. n g (Contains-tail f es g in')) up.1,
    ))

-- sorting entries with distinct names makes them ascend
pub IsRising-sorted_entries : (es : List DirEntry) → AreApart es → IsRising (sorted_entries es)
IsRising-sorted_entries [] apart = tt
IsRising-sorted_entries (e ∷ es) apart = IsRising-insert_entry e (sorted_entries es) (λ f in'. apart.0 f
    (Contains-sorted_entries es f in')) (IsRising-sorted_entries es apart.1)

same_name : DirEntry → DirEntry → Bool
same_name e f = bytes_eq e.0 f.0

apart_from_distinct : (es : List DirEntry) → IsDistinct same_name es → AreApart es
unfolding IsDistinct same_name
apart_from_distinct [] h = tt
apart_from_distinct (e ∷ es) h = (
  (λ f in' same. both_ways (bytes_eq e.0 f.0) (All-contains (λ y. bytes_eq e.0 y.0 ≡ false) es f (All-from_recursion
      (λ y. bytes_eq e.0 y.0 ≡ false) es h.0) in')
      ((bytes_eq-Decides e.0 f.0).1 same)),
  apart_from_distinct es h.1,
)

distinct_from_apart : (es : List DirEntry) → AreApart es → IsDistinct same_name es
unfolding IsDistinct same_name
distinct_from_apart [] h = tt
distinct_from_apart (e ∷ es) h = (
  recursion_from_All (λ y. bytes_eq e.0 y.0 ≡ false) es (All-from_contains (λ y. bytes_eq e.0 y.0 ≡ false) es (λ f in'.
      false_from_ne_true (bytes_eq e.0 f.0) (λ t. h.0 f in' ((bytes_eq-Decides e.0 f.0).0 t)))),
  distinct_from_apart es h.1,
)

-- distinct names stay distinct in any order
pub AreApart-permutation : (es fs : List DirEntry) → IsPermutation es fs → AreApart es → AreApart fs
unfolding same_name
AreApart-permutation es fs moved apart =
    apart_from_distinct fs (IsDistinct-IsPermutation same_name (λ e f. nat_list_eq_equiv.symm e.0 f.0) es fs moved
    (distinct_from_apart es apart))

-- sorted entries with distinct names ascend
pub IsRising-sorted : (es : List DirEntry) → AreApart es → IsSortedByKey (λ e. e.0) (slice_cmp nat_cmp) es → IsRising es
IsRising-sorted [] apart up = tt
IsRising-sorted (e ∷ es) apart up =
    let far = sorted_far (λ x y. is_lt (slice_cmp nat_cmp x.0 y.0)) (ranks_by nat_list_cmp_total (λ x. x.0)) (e ∷ es) up in
    let first : (f : DirEntry) → Contains es f → Before e f = λ f in'. by_order e f (apart.0 f in') (λ t h. h)
    (λ t h. absurd (both_ways (is_lt (slice_cmp nat_cmp f.0 e.0))
    (ap (λ g. is_lt (slice_cmp nat_cmp g.0 e.0)) (sym in'.2) ∙ far 0 (suc in'.0) f (omega arith) (omega (arith, in'.1)))
    (ap is_lt h))) in
    let rest : IsSortedByKey (λ x. x.0) (slice_cmp nat_cmp) es = λ k d low high. far (suc k) (suc (k + 1)) d
    (omega arith) (omega (arith, high)) in
    (first, IsRising-sorted es apart.1 rest)

-- Entries with distinct names have one sorted order: the ascending one.
pub sorted_is_ascending : (es fs : List DirEntry) → AreApart es → IsPermutation es fs → IsSortedByKey (λ e. e.0)
    (slice_cmp nat_cmp) fs → fs ≡ sorted_entries es
sorted_is_ascending es fs apart moved up = one_order fs (sorted_entries es)
    (IsRising-sorted fs (AreApart-permutation es fs moved apart) up)
    (IsRising-sorted_entries es apart)
    (λ x in'. sorted_entries-contains es x (Contains-permutation fs es x (IsPermutation-sym es fs moved) in'))
    (λ x in'. Contains-permutation es fs x moved (Contains-sorted_entries es x in'))

children_apart_from : (k : Key) (es : List (Key × Kind)) → are_distinct es ≡ true → AreApart (filter_map (child_entry k) es)
children_apart_from k [] h = tt
children_apart_from k (e ∷ es) h =
    let apart = and_parts (not (list_any (λ f. same_key e.0 f.0) es)) (are_distinct es) h in
    by_first (child_entry k e) refl (not-true (list_any (λ f. same_key e.0 f.0) es) apart.0) (children_apart_from k es apart.1)
  where
    by_first : (o : Option DirEntry) → child_entry k e ≡ o → list_any (λ f. same_key e.0 f.0) es ≡ false → AreApart
        (filter_map (child_entry k) es)
        → AreApart (cons_option o (filter_map (child_entry k) es))
    by_first None is none rest = rest
    by_first (Some l) is none rest = (
      (λ m in' same.
          let (f, entries_of_nodes, gives) = Contains-filter_map (child_entry k) es m in' in
          let one : e.0 ≡ f.0 = (child_entry_is k e l is).0 ∙ ap (λ n. k ++ n ∷ []) same ∙ sym (child_entry_is k f m gives).0 in
          both_ways (list_any (λ g. same_key e.0 g.0) es) none (list_any-contains (λ g. same_key e.0 g.0) es f
          ((same_key-Decides e.0 f.0).1 one) entries_of_nodes)),
      rest,
    )

-- a directory has no name twice
pub children_apart : (c : Content) → IsContent c → (k : Key) → AreApart (children c k)
unfolding children
children_apart c w k = children_apart_from k c.kinds w.distinct
