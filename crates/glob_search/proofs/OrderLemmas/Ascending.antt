-- What a search gives is in ascending order.
use Rattle.std.proofs.Common.{◌≡◌, ℕ, zero, suc, Bool, true, false, cond, ◌&&◌, ⊎_elim, List, [], ◌∷◌, ◌++◌, length}
use Rattle.std.proofs.Common.{flat_map, filter_map, Option, Some, None, refl, ap, sym, subst, ◌∙◌, arith}
use Rattle.std.specs.Prelude.{Contains, AllPairs, nat_lt}
use Rattle.std.specs.Cmp.Lexicographic.{slice_cmp}
use Rattle.std.specs.Ordering.{nat_cmp, is_eq, ordering_then}
use Rattle.std.specs.declared.cmp.Ordering.{Ordering}
use Rattle.std.specs.declared.cmp.Ordering.TheVariants.{Less, Equal, Greater}
use Rattle.std.specs.declared.io.ErrorKind.{ErrorKind}
use Rattle.std.proofs.lemmas.Bool.{false≢true}
use Rattle.std.proofs.lemmas.List.{append_assoc}
use Rattle.std.proofs.lemmas.List.Elements.{Contains-append_cases}
use Rattle.std.proofs.lemmas.List.Kept.{AllPairs-cons}
use Rattle.std.proofs.lemmas.Map.Text.{is_eq-slice_cmp}
use Rattle.std.proofs.lemmas.Slice.Eq.{bytes_eq-Decides}
use Rattle.glob_text.specs.Text.{Text}
use Rattle.glob_tree.specs.Content.{Content, Key, DirEntry, kind_at, children, sorted_entries}
use Rattle.glob_tree.specs.declared.kind.Kind.{Kind}
use Rattle.glob_tree.specs.declared.kind.Kind.TheVariants.{Dir, Shut, Other}
use Rattle.glob_tree.proofs.ContentLemmas.Contents.{IsContent, IsContent-from_test}
use Rattle.glob_tree.proofs.ContentLemmas.Membership.{Contains-head, Contains-tail, Contains-nil, Contains-filter_map, All-from_contains}
use Rattle.glob_tree.proofs.ContentLemmas.Sorting.{IsRising, IsRising-sorted_entries, children_apart}
use Rattle.glob_search.specs.Laws.{FoundAscend, GiftsAscend, key_cmp, gift_names, turn, gift_cmp, found_names}
use Rattle.glob_search.specs.Searching.{Aim, is_taken, goes_on, is_ignored, is_listed}
use Rattle.glob_search.specs.Visiting.{Gift, Found, Unread, found_at, inside, visit, meet, gifts, levels}
use Rattle.glob_search.proofs.OrderLemmas.Parts.{Contains-flat_map, Contains-one}

-- each element compared with the elements after it
abbrev Pairs : {X : Type 0} → (X → X → Type 0) → List X → Type 0
Pairs Q [] = Unit {0}
Pairs Q (x ∷ xs) = ((y : _) → Contains xs y → Q x y) × Pairs Q xs

Pairs-append : {X : Type 0} (Q : X → X → Type 0) (xs ys : List X) → Pairs Q xs → Pairs Q ys →
    ((x y : X) → Contains xs x → Contains ys y → Q x y) → Pairs Q (xs ++ ys)
Pairs-append Q [] ys a b across = b
Pairs-append Q (x ∷ xs) ys a b across = (
  λ y in'. ⊎_elim (λ here. a.0 y here) (λ there. across x y (Contains-head x xs) there) (Contains-append_cases xs ys y in'),
  Pairs-append Q xs ys a.1 b (λ z y in' there. across z y (Contains-tail x xs z in') there),
)

Pairs-cond : {X : Type 0} (Q : X → X → Type 0) (b : Bool) (xs : List X) → Pairs Q xs → Pairs Q (cond b xs [])
Pairs-cond Q true xs p = p
Pairs-cond Q false xs p = tt

Contains-cond : {X : Type 0} (b : Bool) (xs : List X) (x : X) → Contains (cond b xs []) x → Contains xs x
Contains-cond true xs x h = h
Contains-cond false xs x h = absurd (Contains-nil x h)

Pairs-one : {X : Type 0} (Q : X → X → Type 0) (x : X) → Pairs Q (x ∷ [])
Pairs-one Q x = (λ y in'. absurd (Contains-nil y in'), tt)

AllPairs-from : {X : Type 0} (Q : X → X → Type 0) (xs : List X) → Pairs Q xs → AllPairs Q xs
AllPairs-from Q [] p = λ i j d before below. absurd (omega (arith, below))
AllPairs-from Q (x ∷ xs) p = AllPairs-cons Q x xs (All-from_contains (Q x) xs p.0) (AllPairs-from Q xs p.1)

-- names compare as equal with themselves, and as less than longer ones
cmp-same : (n : Text) → slice_cmp nat_cmp n n ≡ Equal
cmp-same n = equal (slice_cmp nat_cmp n n) (is_eq-slice_cmp n n ∙ (bytes_eq-Decides n n).1 refl)
  where
    equal : (r : Ordering) → is_eq r ≡ true → r ≡ Equal
    equal Less h = absurd (false≢true h)
    equal Equal h = refl
    equal Greater h = absurd (false≢true h)

pub key-under : (names xs ys : Key) → key_cmp (names ++ xs) (names ++ ys) ≡ key_cmp xs ys
key-under [] xs ys = refl
key-under (n ∷ names) xs ys = ap (λ o. ordering_then o (key_cmp (names ++ xs) (names ++ ys))) (cmp-same n) ∙ key-under names xs ys

key-same : (names : Key) → key_cmp names names ≡ Equal
key-same [] = refl
key-same (n ∷ names) = ap (λ o. ordering_then o (key_cmp names names)) (cmp-same n) ∙ key-same names

key-longer : (names : Key) (n : Text) (ns : Key) → key_cmp names (names ++ n ∷ ns) ≡ Less
key-longer [] n ns = refl
key-longer (m ∷ names) n ns = ap (λ o. ordering_then o (key_cmp names (names ++ n ∷ ns))) (cmp-same m) ∙ key-longer names n ns

key-apart : (names : Key) (m n : Text) (ms ns : Key) → slice_cmp nat_cmp m n ≡ Less → key_cmp (names ++ m ∷ ms) (names ++ n ∷ ns) ≡ Less
key-apart names m n ms ns less = key-under names (m ∷ ms) (n ∷ ns) ∙ ap (λ o. ordering_then o (key_cmp ms ns)) less

abbrev Lesser : Gift → Gift → Type 0
Lesser g h = gift_cmp g h ≡ Less

lesser-from : (g h : Gift) (names others : Key) → gift_names g ≡ names → gift_names h ≡ others → key_cmp names others ≡ Less → Lesser g h
lesser-from g h names others left right less =
    ap (λ o. ordering_then o (nat_cmp (turn g) (turn h))) (ap (λ k. key_cmp k (gift_names h)) left ∙ ap (key_cmp names) right ∙ less)

-- what a directory gives: the error of the directory itself, or something with more names
data IsUnder (names : Key) (g : Gift) : Type 0 where
  Itself : (kind : ErrorKind) → g ≡ Unread names kind → IsUnder names g
  Below : (n : Text) (ns : Key) → gift_names g ≡ names ++ n ∷ ns → IsUnder names g

module _ (c : Content) (a : Aim) where
  found_at-names : (names : Key) (o : Option Kind) (g : Gift) → Contains (found_at c a names o) g → g ≡ Found names
  found_at-names names None g h = absurd (Contains-nil g h)
  found_at-names names (Some kind) g h = sym (Contains-one (Found names) g (Contains-cond (a.is_wanted kind && is_taken
      a names) (Found names ∷ []) g h))

  meet-under : (levels : ℕ) (names : Key) (n : Text) (d : Bool) → ((g : Gift) → Contains (visit c a levels
      (names ++ n ∷ [])) g → IsUnder (names ++ n ∷ []) g)
      → (g : Gift) → Contains (meet c a (visit c a levels) (names ++ n ∷ []) d) g → (ns : Key) × (gift_names g ≡ names ++ n ∷ ns)
  meet-under levels names n d deeper g = by_test (is_ignored a (names ++ n ∷ []) d)
    where
      below : IsUnder (names ++ n ∷ []) g → (ns : Key) × (gift_names g ≡ names ++ n ∷ ns)
      below (Itself kind same) = ([], ap gift_names same)
      below (Below m ms same) = (m ∷ ms, same ∙ append_assoc names (n ∷ []) (m ∷ ms))

      by_test : (b : Bool) → Contains (cond b [] (found_at c a (names ++ n ∷ []) (kind_at c (c.current ++ (names ++ n ∷ [])))
          ++ cond (d && nat_lt (length (names ++ n ∷ [])) a.depth && goes_on a (names ++ n ∷ [])) (visit c a levels
          (names ++ n ∷ [])) [])) g
          → (ns : Key) × (gift_names g ≡ names ++ n ∷ ns)
      by_test true h = absurd (Contains-nil g h)
      by_test false h = ⊎_elim
          (λ here. ([], ap gift_names (found_at-names (names ++ n ∷ []) (kind_at c (c.current ++ (names ++ n ∷ []))) g here)))
          (λ later. below (deeper g (Contains-cond (d && nat_lt (length (names ++ n ∷ [])) a.depth && goes_on a
          (names ++ n ∷ [])) (visit c a levels (names ++ n ∷ [])) g later)))
          (Contains-append_cases (found_at c a (names ++ n ∷ []) (kind_at c (c.current ++ (names ++ n ∷ [])))) _ g h)

  -- the entries of a directory, each with what it gives
  abbrev entries : ℕ → Key → List DirEntry → List Gift
  entries levels names es = flat_map (λ e. meet c a (visit c a levels) (names ++ e.0 ∷ []) e.1) es

  visit-under : (levels : ℕ) (names : Key) (g : Gift) → Contains (visit c a levels names) g → IsUnder names g
  unfolding visit
  visit-under zero names g h = absurd (Contains-nil g h)
  visit-under (suc l) names g h = by_kind (λ at h. visit-under l at h) (kind_at c (c.current ++ names)) h
    where
      of_entries : ((at : Key) (h : Gift) → Contains (visit c a l at) h → IsUnder at h)
          → Contains (entries l names (sorted_entries (children c (c.current ++ names)))) g → IsUnder names g
      of_entries again h =
          let (e, _, gives) = Contains-flat_map (λ e. meet c a (visit c a l) (names ++ e.0 ∷ []) e.1) (sorted_entries
          (children c (c.current ++ names))) g h in
          let (ns, same) = meet-under l names e.0 e.1 (again (names ++ e.0 ∷ [])) g gives in
          Below e.0 ns same

      by_listed : ((at : Key) (h : Gift) → Contains (visit c a l at) h → IsUnder at h) → (kind : ErrorKind) (b : Bool)
          → Contains (cond b (Unread names kind ∷ []) (entries l names (sorted_entries
          (children c (c.current ++ names))))) g → IsUnder names g
      by_listed again kind true h = Itself kind (sym (Contains-one (Unread names kind) g h))
      by_listed again kind false h = of_entries again h

      by_kind : ((at : Key) (h : Gift) → Contains (visit c a l at) h → IsUnder at h) → (o : Option Kind)
          → Contains (inside a names o (entries l names (sorted_entries (children c (c.current ++ names))))) g → IsUnder names g
      by_kind again None h = absurd (Contains-nil g h)
      by_kind again (Some Dir) h = of_entries again h
      by_kind again (Some (Shut kind)) h = by_listed again kind (is_listed a names) h
      by_kind again (Some Other) h = absurd (Contains-nil g h)

  meet-ordered : (levels : ℕ) (names : Key) (d : Bool) → Pairs Lesser (visit c a levels names) → Pairs Lesser
      (meet c a (visit c a levels) names d)
  meet-ordered levels names d inner = by_test (is_ignored a names d)
    where
      here : (o : Option Kind) → Pairs Lesser (found_at c a names o)
      here None = tt
      here (Some kind) = Pairs-cond Lesser (a.is_wanted kind && is_taken a names) (Found names ∷ []) (Pairs-one Lesser (Found names))

      after : (h : Gift) → IsUnder names h → Lesser (Found names) h
      after h (Itself kind same) = subst (Lesser (Found names)) (sym same) (ap (λ o. ordering_then o (nat_cmp 0 1)) (key-same names))
      after h (Below n ns same) = lesser-from (Found names) h names (names ++ n ∷ ns) refl same (key-longer names n ns)

      by_test : (b : Bool) → Pairs Lesser (cond b [] (found_at c a names (kind_at c (c.current ++ names))
          ++ cond (d && nat_lt (length names) a.depth && goes_on a names) (visit c a levels names) []))
      by_test true = tt
      by_test false = Pairs-append Lesser (found_at c a names (kind_at c (c.current ++ names))) _ (here (kind_at c (c.current ++ names)))
          (Pairs-cond Lesser (d && nat_lt (length names) a.depth && goes_on a names) (visit c a levels names) inner)
          (λ g h at later. subst (λ f. Lesser f h) (sym (found_at-names names (kind_at c (c.current ++ names)) g at))
          (after h (visit-under levels names h (Contains-cond (d && nat_lt (length names) a.depth && goes_on a names)
          (visit c a levels names) h later))))

  entries-ordered : (levels : ℕ) (names : Key) → ((at : Key) → Pairs Lesser (visit c a levels at)) →
      (es : List DirEntry) → IsRising es → Pairs Lesser (entries levels names es)
  entries-ordered levels names inner [] rising = tt
  entries-ordered levels names inner (e ∷ es) rising =
      Pairs-append Lesser (meet c a (visit c a levels) (names ++ e.0 ∷ []) e.1) (entries levels names es)
      (meet-ordered levels (names ++ e.0 ∷ []) e.1 (inner (names ++ e.0 ∷ [])))
      (entries-ordered levels names inner es rising.1)
      (λ g h here there.
      let (ms, left) = meet-under levels names e.0 e.1 (visit-under levels (names ++ e.0 ∷ [])) g here in
      let (f, in', gives) = Contains-flat_map (λ f. meet c a (visit c a levels) (names ++ f.0 ∷ []) f.1) es h there in
      let (ns, right) = meet-under levels names f.0 f.1 (visit-under levels (names ++ f.0 ∷ [])) h gives in
      lesser-from g h (names ++ e.0 ∷ ms) (names ++ f.0 ∷ ns) left right (key-apart names e.0 f.0 ms ns (rising.0 f in')))

  visit-ordered : IsContent c → (levels : ℕ) (names : Key) → Pairs Lesser (visit c a levels names)
  unfolding visit
  visit-ordered w zero names = tt
  visit-ordered w (suc l) names = by_kind (λ at. visit-ordered w l at) (kind_at c (c.current ++ names))
    where
      of_entries : ((at : Key) → Pairs Lesser (visit c a l at)) → Pairs Lesser (entries l names (sorted_entries
          (children c (c.current ++ names))))
      of_entries again = entries-ordered l names again (sorted_entries (children c (c.current ++ names)))
          (IsRising-sorted_entries (children c (c.current ++ names)) (children_apart c w (c.current ++ names)))

      by_listed : ((at : Key) → Pairs Lesser (visit c a l at)) → (kind : ErrorKind) (b : Bool)
          → Pairs Lesser (cond b (Unread names kind ∷ []) (entries l names (sorted_entries (children c (c.current ++ names)))))
      by_listed again kind true = Pairs-one Lesser (Unread names kind)
      by_listed again kind false = of_entries again

      by_kind : ((at : Key) → Pairs Lesser (visit c a l at)) → (o : Option Kind)
          → Pairs Lesser (inside a names o (entries l names (sorted_entries (children c (c.current ++ names)))))
      by_kind again None = tt
      by_kind again (Some Dir) = of_entries again
      by_kind again (Some (Shut kind)) = by_listed again kind (is_listed a names)
      by_kind again (Some Other) = tt

  gifts-ordered : IsContent c → Pairs Lesser (gifts c a)
  unfolding gifts
  gifts-ordered w = Pairs-cond Lesser (nat_lt 0 a.depth) (visit c a (levels c) []) (visit-ordered w (levels c) [])

-- if all that is given ascends, the names that are found ascend
abbrev Rises : Key → Key → Type 0
Rises names others = key_cmp names others ≡ Less

rises-from : (names others : Key) → Lesser (Found names) (Found others) → Rises names others
rises-from names others h = by_order (key_cmp names others) h
  where
    by_order : (o : Ordering) → ordering_then o (nat_cmp 0 0) ≡ Less → o ≡ Less
    by_order Less h = refl
    by_order Equal h = absurd (cc)
    by_order Greater h = absurd (cc)

found_name : (g : Gift) (names : Key) → found_names g ≡ Some names → g ≡ Found names
found_name (Found names) others h = cc
found_name (Unread names kind) others h = absurd (cc)

found-ordered : (gs : List Gift) → Pairs Lesser gs → Pairs Rises (filter_map found_names gs)
found-ordered [] p = tt
found-ordered (Unread names kind ∷ gs) p = found-ordered gs p.1
found-ordered (Found names ∷ gs) p = (
  λ others in'.
      let (h, there, is) = Contains-filter_map found_names gs others in' in
      rises-from names others (subst (Lesser (Found names)) (found_name h others is) (p.0 h there)),
  found-ordered gs p.1,
)

pub gifts_ascend : GiftsAscend
gifts_ascend c a content = AllPairs-from Lesser (gifts c a) (gifts-ordered c a (IsContent-from_test c content))

pub found_ascend : FoundAscend
found_ascend c a content = AllPairs-from Rises (filter_map found_names (gifts c a)) (found-ordered (gifts c a)
    (gifts-ordered c a (IsContent-from_test c content)))
