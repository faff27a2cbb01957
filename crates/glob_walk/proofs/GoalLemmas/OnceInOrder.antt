-- The paths of the written listing come once, and in order.
use Rattle.std.proofs.Common.{◌≡◌, ◌≢◌, ℕ, ◌-◌, ◌<◌, ◌≤◌, Bool, true, false, List, [], ◌∷◌, ◌++◌}
use Rattle.std.proofs.Common.{length, map, refl, sym, ap, subst, ◌∙◌, arith}
use Rattle.std.specs.Prelude.{Contains, AllPairs}
use Rattle.std.specs.List.{list_any}
use Rattle.std.specs.Cmp.Lexicographic.{slice_cmp}
use Rattle.std.specs.Ordering.{nat_cmp, is_eq}
use Rattle.std.specs.declared.cmp.Ordering.{Ordering}
use Rattle.std.specs.declared.cmp.Ordering.TheVariants.{Less, Equal, Greater}
use Rattle.std.proofs.lemmas.Bool.{false≢true, both_ways, or_parts, not-true}
use Rattle.std.proofs.lemmas.List.Elements.{Contains-append_left}
use Rattle.std.proofs.lemmas.List.Kept.{AllPairs-cons}
use Rattle.std.proofs.lemmas.Map.Text.{is_eq-slice_cmp}
use Rattle.std.proofs.lemmas.Slice.Eq.{bytes_eq-Decides}
use Rattle.glob_text.specs.Text.{Text}
use Rattle.glob_text.specs.Pieces.{ends_with}
use Rattle.glob_text.specs.Characters.{slash}
use Rattle.glob_tree.specs.Content.{Content, Key, origin}
use Rattle.glob_walk.specs.Walks.{Item, items, paths, IsBeginning, listing}
use Rattle.glob_walk.specs.Components.{start, components, begins_recursive, is_recursive}
use Rattle.glob_walk.specs.Goal.{after_first_recursive, has_one_recursive}
use Rattle.glob_walk.specs.Goal.{names_of, path_cmp, IsOrderly}
use Rattle.glob_walk.specs.Laws.{IsPlainWalk}
use Rattle.glob_pattern.specs.declared.options.MatchOptions.{MatchOptions}
use Rattle.glob_tree.proofs.ContentLemmas.Membership.{Contains-head, Contains-tail, All-from_contains}
use Rattle.glob_tree.proofs.ContentLemmas.Contents.{IsContent, IsContent-from_test}
use Rattle.glob_walk.proofs.ListingLemmas.Marks.{paths-append}
use Rattle.glob_walk.proofs.GoalLemmas.Finds.{Find, Hit, Miss, item_under, under, finds}
use Rattle.glob_walk.proofs.GoalLemmas.KeysBelow.{names_at}
use Rattle.glob_walk.proofs.GoalLemmas.NamedPaths.{AreNames-from, under-start, names_of-below}
use Rattle.glob_walk.proofs.GoalLemmas.GoalNames.{takes_some, IsTaken}
use Rattle.glob_walk.proofs.GoalLemmas.ItemsFound.{items-finds, found_is_taken}
use Rattle.glob_walk.proofs.GoalLemmas.FoundParts.{hit_of_path}
use Rattle.glob_walk.proofs.GoalLemmas.FoundInOrder.{Pairs, OfHits, Shorter, AtRuns, ordered_finds}

-- a text is equal to itself in the order
cmp-same : (n : Text) → slice_cmp nat_cmp n n ≡ Equal
cmp-same n = equal (slice_cmp nat_cmp n n) (is_eq-slice_cmp n n ∙ (bytes_eq-Decides n n).1 refl)
  where
    equal : (r : Ordering) → is_eq r ≡ true → r ≡ Equal
    equal Less h = absurd (false≢true h)
    equal Equal h = refl
    equal Greater h = absurd (false≢true h)

-- names that differ
abbrev Differ : Key → Key → Type 0
Differ a b = a ≢ b

differ-under : (n : Text) (a b : Key) → Differ a b → Differ (n ∷ a) (n ∷ b)
differ-under n a b other e = other (cc)

differ-first : (m n : Text) (a b : Key) → slice_cmp nat_cmp m n ≡ Less → Differ (m ∷ a) (n ∷ b)
differ-first m n a b less e = less_not_equal (sym less ∙ ap (λ x. slice_cmp nat_cmp x n) same ∙ cmp-same n)
  where
    same : m ≡ n
    same = cc

    less_not_equal : Less ≡ Equal → ⊥
    less_not_equal f = cc

differ-shorter : (m : ℕ) (a b : Key) → length a ≡ m → m < length b → Differ a b
differ-shorter m a b l h e = omega (arith, ap length e)

-- names in ascending order
abbrev Rises : Key → Key → Type 0
Rises a b = slice_cmp (slice_cmp nat_cmp) a b ≡ Less

rises-under : (n : Text) (a b : Key) → Rises a b → Rises (n ∷ a) (n ∷ b)
rises-under n a b h = rw (cmp-same n) h

rises-first : (m n : Text) (a b : Key) → slice_cmp nat_cmp m n ≡ Less → Rises (m ∷ a) (n ∷ b)
rises-first m n a b less = rw less refl

rises-shorter : (m : ℕ) → m ≡ 0 → (a b : Key) → length a ≡ m → m < length b → Rises a b
rises-shorter m z [] [] l h = absurd (omega arith)
rises-shorter m z [] (n ∷ b) l h = refl
rises-shorter m z (x ∷ a) b l h = absurd (omega arith)

-- if no `**` is left
at_no_run : (R : Key → Key → Type 0) (ts : List Text) → list_any is_recursive ts ≡ false → AtRuns R ts
at_no_run R [] h = tt
at_no_run R (t ∷ ts) h =
    let both = or_parts (is_recursive t) (list_any is_recursive ts) h in
    ((λ r last. absurd (both_ways (is_recursive t) both.0 r)), at_no_run R ts both.1)

at_runs : (R : Key → Key → Type 0) (ts : List Text) → list_any is_recursive (after_first_recursive ts) ≡ false
    → Shorter R (length (after_first_recursive ts) - 1) → AtRuns R ts
at_runs R [] h shorter = tt
at_runs R (t ∷ ts) h shorter = by_test (is_recursive t) refl
    (λ e. at_runs R ts (subst (λ us. list_any is_recursive us ≡ false) e h) (subst (λ us. Shorter R (length us - 1)) e shorter))
  where
    by_next : is_recursive t ≡ true → (b : Bool) → begins_recursive ts ≡ b → (after_first_recursive
        (t ∷ ts) ≡ after_first_recursive ts → AtRuns R ts) → AtRuns R (t ∷ ts)
    by_next r true more further = (
      (λ q last. absurd (both_ways (begins_recursive ts) last more)),
      further (rw (r, more) refl),
    )
    by_next r false last further =
        let e : after_first_recursive (t ∷ ts) ≡ ts = rw (r, last) refl in
        let plain = subst (λ us. list_any is_recursive us ≡ false) e h in
        ((λ q l. (plain, subst (λ us. Shorter R (length us - 1)) e shorter)), at_no_run R ts plain)

    by_test : (b : Bool) → is_recursive t ≡ b → (after_first_recursive (t ∷ ts) ≡ after_first_recursive ts
        → AtRuns R ts) → AtRuns R (t ∷ ts)
    by_test true r further = by_next r (begins_recursive ts) refl further
    by_test false r further = ((λ q last. absurd (both_ways (is_recursive t) r q)), further (rw r refl))

-- the paths of what is found
Pairs-paths : (R : Key → Key → Type 0) (S : Text → Text → Type 0) (path : Text) (fs : List Find)
    → Pairs (OfHits R) fs
    → ((a b : Key) → Contains fs (Hit a) → Contains fs (Hit b) → R a b → S (under path a) (under path b))
    → Pairs S (paths (map (item_under path) fs))
Pairs-paths R S path [] pairs turn = tt
Pairs-paths R S path (Hit a ∷ fs) pairs turn = (
  λ text in'.
      let (b, e, there) = hit_of_path path fs text in' in
      subst (S (under path a)) (sym e) (turn a b (Contains-head (Hit a) fs) (Contains-tail (Hit a) fs (Hit b) there)
      (pairs.0 (Hit b) there a b refl refl)),
  Pairs-paths R S path fs pairs.1 (λ x y left right. turn x y (Contains-tail (Hit a) fs (Hit x) left) (Contains-tail
      (Hit a) fs (Hit y) right)),
)
Pairs-paths R S path (Miss a kind ∷ fs) pairs turn =
    Pairs-paths R S path fs pairs.1 (λ x y left right. turn x y (Contains-tail (Miss a kind) fs (Hit x) left)
    (Contains-tail (Miss a kind) fs (Hit y) right))

Pairs-front : {X : Type 0} (S : X → X → Type 0) (xs ys : List X) → Pairs S (xs ++ ys) → Pairs S xs
Pairs-front S [] ys p = tt
Pairs-front S (x ∷ xs) ys p = ((λ y in'. p.0 y (Contains-append_left xs ys y in')), Pairs-front S xs ys p.1)

AllPairs-from : {X : Type 0} (S : X → X → Type 0) (xs : List X) → Pairs S xs → AllPairs S xs
AllPairs-from S [] p = λ i j d l h. absurd (omega arith)
AllPairs-from S (x ∷ xs) p = AllPairs-cons S x xs (All-from_contains (S x) xs p.0) (AllPairs-from S xs p.1)

module _ (c : Content) (o : MatchOptions) (pattern : Text) (p : IsPlainWalk c pattern) where
  w : IsContent c
  w = IsContent-from_test c p.content

  -- the names of a hit are the names of its path
  hit_names : (names : Key) → Contains (finds c o pattern) (Hit names) → names_of (under (start pattern) names) ≡ names
  hit_names names in' = of_hit names (found_is_taken c o pattern p names in')
    where
      of_hit : (names : Key) → IsTaken c o pattern names → names_of (under (start pattern) names) ≡ names
      of_hit [] is = absurd (takes_some o pattern is.taken)
      of_hit (n ∷ ns) is =
          let all = AreNames-from (n ∷ ns) (names_at c w (origin c pattern) (n ∷ ns) is.kind is.held) in
          ap names_of (under-start pattern n ns all) ∙ names_of-below pattern n ns all

  given_pairs : (R : Key → Key → Type 0) (S : Text → Text → Type 0) → Pairs (OfHits R) (finds c o pattern)
      → ((path later : Text) → R (names_of path) (names_of later) → S path later) → (given : List Item)
      → IsBeginning given (items (listing c o pattern)) → AllPairs S (paths given)
  given_pairs R S pairs turn given begins =
      AllPairs-from S (paths given) (Pairs-front S (paths given) (paths begins.0)
      (subst (Pairs S) (ap paths (sym (items-finds c o pattern p) ∙ begins.1) ∙ paths-append given begins.0)
      (Pairs-paths R S (start pattern) (finds c o pattern) pairs
      (λ a b left right r. turn (under (start pattern) a) (under (start pattern) b)
      (subst (λ x. R x (names_of (under (start pattern) b))) (sym (hit_names a left)) (subst (R a) (sym (hit_names b right)) r))))))

  -- a prefix of the written listing gives its paths once and in order, as far as the places of `**` allow
  pub plain_walk_orderly : (given : List Item) → IsBeginning given (items (listing c o pattern)) → IsOrderly pattern (paths given)
  plain_walk_orderly given begins = record { once = once; ascending = ascending }
    where
      once : has_one_recursive pattern ≡ true → AllPairs (λ p q. p ≢ q) (paths given)
      once h = given_pairs Differ (λ p q. p ≢ q)
          (ordered_finds c w Differ (record { under = differ-under; first = differ-first }) o
          (ends_with slash pattern) (components pattern)
          (at_runs Differ (components pattern) (not-true _ h) (differ-shorter (length (after_first_recursive
          (components pattern)) - 1))) (origin c pattern) true)
          (λ p q r e. r (ap names_of e)) given begins

      ascending : has_one_recursive pattern ≡ true → length (after_first_recursive (components pattern)) ≤ 1
          → AllPairs (λ p q. path_cmp p q ≡ Less) (paths given)
      ascending h few = given_pairs Rises (λ p q. path_cmp p q ≡ Less)
          (ordered_finds c w Rises (record { under = rises-under; first = rises-first }) o (ends_with slash pattern) (components pattern)
          (at_runs Rises (components pattern) (not-true _ h) (rises-shorter (length (after_first_recursive
          (components pattern)) - 1) (omega arith))) (origin c pattern) true)
          (λ p q r. r) given begins
