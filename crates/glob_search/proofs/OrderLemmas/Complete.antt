-- A search gives all that is to be found, and each directory that cannot be listed.
use Rattle.std.proofs.Common.{◌≡◌, ℕ, zero, suc, ◌<◌, ◌≤◌, Bool, true, false, not, ◌&&◌, ◌||◌, List, [], ◌∷◌, ◌++◌}
use Rattle.std.proofs.Common.{length, flat_map, Some, refl, ap, ap₂, sym, subst, ◌∙◌, arith}
use Rattle.std.specs.Prelude.{Contains, nat_lt, nat_le}
use Rattle.std.specs.declared.io.ErrorKind.{ErrorKind}
use mathlib.Core.Bool.{or-false}
use Rattle.std.proofs.lemmas.Bool.{false≢true, and_parts, and_from, ltb-true, lt-ltb, leb-true, or_right, cond-true, cond-false}
use Rattle.std.proofs.lemmas.List.{append_assoc, length-append}
use Rattle.std.proofs.lemmas.List.Elements.{Contains-append_left, Contains-append_right}
use Rattle.glob_text.specs.Text.{Text}
use Rattle.glob_tree.specs.Content.{Content, Key, kind_at, is_dir, children, sorted_entries}
use Rattle.glob_tree.specs.declared.kind.Kind.{Kind}
use Rattle.glob_tree.specs.declared.kind.Kind.TheVariants.{Shut}
use Rattle.glob_tree.proofs.ContentLemmas.Contents.{IsContent, listed_child}
use Rattle.glob_tree.proofs.ContentLemmas.Directories.{is_dir_at-kind, directory_kind}
use Rattle.glob_tree.proofs.ContentLemmas.Membership.{Contains-head}
use Rattle.glob_tree.proofs.ContentLemmas.Sorting.{sorted_entries-contains}
use Rattle.glob_search.specs.Searching.{Aim, is_taken, goes_on, is_ignored, is_closed, is_listed, is_nil, is_shut}
use Rattle.glob_search.specs.Visiting.{Gift, Found, Unread, found_at, inside, visit, meet, levels}
use Rattle.glob_search.proofs.OrderLemmas.GoingOn.{goes_on-above, is_taken-above, is_listed-goes_on}
use Rattle.glob_search.proofs.OrderLemmas.Parts.{flat_map-contains}
use Rattle.glob_search.proofs.OrderLemmas.Sound.{IsFound, IsUnread}
use Rattle.glob_search.proofs.OrderLemmas.Ways.{first, inside-entries, dir-above, within-levels, reached_from}

module _ (c : Content) (a : Aim) where
  -- an entry of a directory, on the way to what is at a key
  record Step (k : Key) (d : Bool) : Type 0 where
    kind : Kind
    held : kind_at c k ≡ Some kind
    is : is_dir kind ≡ d

  step : IsContent c → (k : Key) (n : Text) (ns : Key) (kind : Kind) → kind_at c (k ++ n ∷ ns) ≡ Some kind → Step
      (k ++ n ∷ []) (is_dir kind || not (is_nil ns))
  step w k n [] kind held = record { kind = kind; held = held; is = sym (or-false (is_dir kind)) }
  step w k n (m ∷ ms) kind held =
      let above = dir-above c w (k ++ n ∷ []) m ms kind (ap (kind_at c) (append_assoc k (n ∷ []) (m ∷ ms)) ∙ held) in
      let (found, at) = directory_kind c (k ++ n ∷ []) above in
      record {
        kind = found;
        held = at;
        is = sym (is_dir_at-kind c (k ++ n ∷ []) found at) ∙ above ∙ sym
            (or_right (is_dir kind) true refl);
      }

  -- something is alive in each directory above the names
  abbrev GoesOnAbove : Key → Type 0
  GoesOnAbove names = (front : Key) (n : Text) (ns : Key) → names ≡ front ++ n ∷ ns → goes_on a front ≡ true

  -- what an entry that is not ignored gives
  abbrev Comes : Key → (is_directory : Bool) → Gift → Type 0
  Comes names d g = (n : ℕ) → 0 < n → is_ignored a names d ≡ false → Contains (meet c a (visit c a n) names d) g

  -- is also given by a directory from which the entry is reached
  reaches : IsContent c → (levels : ℕ) (directory : Key) (n : Text) (ns names : Key) (kind : Kind) (g : Gift) → length (n ∷ ns) < levels
      → names ≡ directory ++ n ∷ ns → kind_at c (c.current ++ names) ≡ Some kind → reached_from c a directory (n ∷ ns) (is_dir kind) ≡ true
      → length names ≤ a.depth → GoesOnAbove names → Comes names (is_dir kind) g → Contains (visit c a levels directory) g
  unfolding visit
  reaches w zero directory n ns names kind g enough same held reached short goes comes = absurd (omega (arith, enough))
  reaches w (suc l) directory n ns names kind g enough same held reached short goes comes =
      let way = first c a directory n ns (is_dir kind) reached in
      let below : kind_at c ((c.current ++ directory) ++ n ∷ ns) ≡ Some kind =
      ap (kind_at c) (append_assoc c.current directory (n ∷ ns) ∙ ap (λ k. c.current ++ k) (sym same)) ∙ held in
      let above = dir-above c w (c.current ++ directory) n ns kind below in
      let (here, at) = directory_kind c (c.current ++ directory) above in
      let open' = inside-entries c a directory here
      (flat_map (λ e. meet c a (visit c a l) (directory ++ e.0 ∷ []) e.1) (sorted_entries (children c (c.current ++ directory))))
      at (sym (is_dir_at-kind c (c.current ++ directory) here at) ∙ above) way.closed in
      let entry = step w (c.current ++ directory) n ns kind below in
      let listed = sorted_entries-contains (children c (c.current ++ directory)) (n, is_dir entry.kind)
      (listed_child c (c.current ++ directory) n entry.kind entry.held) in
      subst (λ gs. Contains gs g) (sym (ap (λ o. inside a directory o (flat_map (λ e. meet c a (visit c a l)
      (directory ++ e.0 ∷ []) e.1) (sorted_entries (children c (c.current ++ directory))))) at ∙ open'))
      (flat_map-contains (λ e. meet c a (visit c a l) (directory ++ e.0 ∷ []) e.1) (sorted_entries
      (children c (c.current ++ directory))) (n, is_dir entry.kind) g listed
      (subst (λ d. Contains (meet c a (visit c a l) (directory ++ n ∷ []) d) g) (sym entry.is)
      (by_rest ns same reached way.ignored enough
      (λ p ps more deeper. reaches w l (directory ++ n ∷ []) p ps names kind g (omega (arith, enough, ap length more)) deeper held
      (ap (λ ms. reached_from c a (directory ++ n ∷ []) ms (is_dir kind)) (sym more) ∙ way.reached) short goes comes))))
    where
      by_rest : (ns : Key) → names ≡ directory ++ n ∷ ns → reached_from c a directory (n ∷ ns) (is_dir kind) ≡ true
          → is_ignored a (directory ++ n ∷ []) (is_dir kind || not (is_nil ns)) ≡ false → length (n ∷ ns) < suc l
          → ((p : Text) (ps : Key) → ns ≡ p ∷ ps → names ≡ (directory ++ n ∷ []) ++ p ∷ ps → Contains (visit c a l (directory ++ n ∷ [])) g)
          → Contains (meet c a (visit c a l) (directory ++ n ∷ []) (is_dir kind || not (is_nil ns))) g
      by_rest [] same reached kept enough deeper =
          let kept' : is_ignored a names (is_dir kind) ≡ false = ap₂ (is_ignored a) same (sym (or-false (is_dir kind))) ∙ kept in
          subst (λ k. Contains (meet c a (visit c a l) k (is_dir kind || false)) g) same
          (subst (λ d. Contains (meet c a (visit c a l) names d) g) (sym (or-false (is_dir kind))) (comes l (omega (arith, enough)) kept'))
      by_rest (p ∷ ps) same reached kept enough deeper =
          let same' : names ≡ (directory ++ n ∷ []) ++ p ∷ ps = same ∙ sym (append_assoc directory (n ∷ []) (p ∷ ps)) in
          let short' : nat_lt (length (directory ++ n ∷ [])) a.depth ≡ true =
          lt-ltb _ _ (omega (arith, short, ap length same', length-append (directory ++ n ∷ []) (p ∷ ps))) in
          let kept' : is_ignored a (directory ++ n ∷ []) true ≡ false = ap (is_ignored a (directory ++ n ∷ []))
          (sym (or_right (is_dir kind) true refl)) ∙ kept in
          subst (λ d. Contains (meet c a (visit c a l) (directory ++ n ∷ []) d) g) (sym (or_right (is_dir kind) true refl))
          (subst (λ gs. Contains gs g) (sym (cond-false (is_ignored a (directory ++ n ∷ []) true) _ _ kept'))
          (Contains-append_right (found_at c a (directory ++ n ∷ []) (kind_at c (c.current ++ (directory ++ n ∷ [])))) _ g
          (subst (λ gs. Contains gs g)
          (sym (cond-true (nat_lt (length (directory ++ n ∷ [])) a.depth && goes_on a (directory ++ n ∷ []))
          (visit c a l (directory ++ n ∷ [])) []
          (and_from _ _ short' (goes (directory ++ n ∷ []) p ps same'))))
          (deeper p ps refl same'))))

  -- the parts of what is to be found
  pub found-given : IsContent c → (names : Key) → IsFound c a names → (0 < a.depth) × Contains (visit c a (levels c) []) (Found names)
  found-given w [] f = absurd (false≢true f.is)
  found-given w (n ∷ ns) f =
      let (abcd, reached) = and_parts (not (is_nil (n ∷ ns)) && nat_le (length (n ∷ ns)) a.depth && a.is_wanted f.kind
      && is_taken a (n ∷ ns)) (reached_from c a [] (n ∷ ns) (is_dir f.kind)) f.is in
      let (abc, taken) = and_parts (not (is_nil (n ∷ ns)) && nat_le (length (n ∷ ns)) a.depth && a.is_wanted f.kind)
      (is_taken a (n ∷ ns)) abcd in
      let (ab, wanted) = and_parts (not (is_nil (n ∷ ns)) && nat_le (length (n ∷ ns)) a.depth) (a.is_wanted f.kind) abc in
      let short : length (n ∷ ns) ≤ a.depth = leb-true _ _ (and_parts true (nat_le (length (n ∷ ns)) a.depth) ab).1 in (
        omega (arith, short),
        reaches w (levels c) [] n ns (n ∷ ns) f.kind (Found (n ∷ ns)) (omega (
          arith,
          within-levels c c.current
              (n ∷ ns) f.kind f.held,
        )) refl f.held reached short
            (λ front m ms same. is_taken-above a front m ms (ap (is_taken a) (sym same) ∙ taken))
            (λ l some kept.
            subst (λ gs. Contains gs (Found (n ∷ ns))) (sym (cond-false (is_ignored a (n ∷ ns) (is_dir f.kind)) _ _ kept))
            (Contains-append_left (found_at c a (n ∷ ns) (kind_at c (c.current ++ n ∷ ns))) _ (Found (n ∷ ns))
            (subst (λ gs. Contains gs (Found (n ∷ ns)))
            (sym (ap (found_at c a (n ∷ ns)) f.held ∙ cond-true (a.is_wanted f.kind && is_taken a (n ∷ ns))
            (Found (n ∷ ns) ∷ []) [] (and_from _ _ wanted taken)))
            (Contains-head (Found (n ∷ ns)) [])))),
      )

  -- a directory that cannot be listed is reported if it is entered
  unread-here : (names : Key) (kind : ErrorKind) (l : ℕ) → 0 < l → kind_at c (c.current ++ names) ≡ Some (Shut kind)
      → is_listed a names ≡ true
      → Contains (visit c a l names) (Unread names kind)
  unfolding visit
  unread-here names kind zero some held listed = absurd (omega (arith, some))
  unread-here names kind (suc l) some held listed =
      let entries : List Gift = flat_map (λ e. meet c a (visit c a l) (names ++ e.0 ∷ []) e.1) (sorted_entries
      (children c (c.current ++ names))) in
      subst (λ gs. Contains gs (Unread names kind))
      (sym (ap (λ o. inside a names o entries) held ∙ cond-true (is_listed a names) (Unread names kind ∷ []) entries listed))
      (Contains-head (Unread names kind) [])

  pub unread-given : IsContent c → (names : Key) (kind : ErrorKind) → IsUnread c a names kind → (0 < a.depth)
      × Contains (visit c a (levels c) []) (Unread names kind)
  unread-given w names kind u =
      let (ab, reached) = and_parts (is_closed c a names && nat_lt (length names) a.depth) (reached_from c a [] names true) u.is in
      let (closed, short) = and_parts (is_closed c a names) (nat_lt (length names) a.depth) ab in
      let listed : is_listed a names ≡ true = sym (ap (λ k. is_shut k && is_listed a names) u.held) ∙ closed in
      let short' : length names < a.depth = ltb-true _ _ short in
      (omega (arith, short'), by_names names u.held reached listed short')
    where
      by_names : (names : Key) → kind_at c (c.current ++ names) ≡ Some (Shut kind) → reached_from c a [] names true ≡
          true → is_listed a names ≡ true → length names < a.depth
          → Contains (visit c a (levels c) []) (Unread names kind)
      by_names [] held reached listed short = unread-here [] kind (levels c)
          (omega (arith, within-levels c c.current [] (Shut kind) held)) held listed
      by_names (n ∷ ns) held reached listed short =
          reaches w (levels c) [] n ns (n ∷ ns) (Shut kind) (Unread (n ∷ ns) kind)
          (omega (arith, within-levels c c.current (n ∷ ns) (Shut kind) held)) refl held reached
          (omega (arith, short))
          (λ front m ms same. goes_on-above a front (m ∷ ms) (ap (goes_on a) (sym same) ∙ is_listed-goes_on a (n ∷ ns) listed))
          (λ l some kept.
          subst (λ gs. Contains gs (Unread (n ∷ ns) kind)) (sym (cond-false (is_ignored a (n ∷ ns) true) _ _ kept))
          (Contains-append_right (found_at c a (n ∷ ns) (kind_at c (c.current ++ n ∷ ns))) _ (Unread (n ∷ ns) kind)
          (subst (λ gs. Contains gs (Unread (n ∷ ns) kind))
          (sym (cond-true (nat_lt (length (n ∷ ns)) a.depth && goes_on a (n ∷ ns)) (visit c a l (n ∷ ns)) []
          (and_from _ _ (lt-ltb _ _ short) (is_listed-goes_on a (n ∷ ns) listed))))
          (unread-here (n ∷ ns) kind l some held listed))))
