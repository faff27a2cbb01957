-- Each directory that is found but cannot be listed is shut, so over a readable content a walk gives no error.
use Rattle.std.proofs.Common.{◌≡◌, ℕ, zero, suc, ⊎_elim, Bool, true, false, cond, not, ◌||◌, List, [], ◌∷◌, ◌++◌}
use Rattle.std.proofs.Common.{Option, Some, None, refl, sym, ap, subst, ◌∙◌}
use Rattle.std.specs.Prelude.{Contains, is_none}
use Rattle.std.specs.declared.io.ErrorKind.{ErrorKind}
use Rattle.std.proofs.lemmas.Bool.{false≢true}
use Rattle.std.proofs.lemmas.List.{append_assoc, append-nil}
use Rattle.std.proofs.lemmas.List.Elements.{Contains-append_cases}
use Rattle.glob_text.specs.Text.{Text}
use Rattle.glob_text.specs.Pieces.{ends_with}
use Rattle.glob_text.specs.Characters.{slash}
use Rattle.glob_tree.specs.Content.{origin}
use Rattle.glob_tree.specs.Content.{Content, Key, DirEntry, kind_at, is_dir, children, sorted_entries, names_past}
use Rattle.glob_walk.specs.Components.{Literal, Recursive, Wild, component_kind, ComponentKind, begins_recursive}
use Rattle.glob_walk.specs.Components.{matches_name, start, components}
use Rattle.glob_walk.specs.Walks.{is_entered, levels, listing, Unread, items}
use Rattle.glob_walk.specs.Goal.{is_readable, is_shut}
use Rattle.glob_walk.specs.Laws.{IsPlainWalk}
use Rattle.glob_pattern.specs.declared.options.MatchOptions.{MatchOptions}
use Rattle.glob_tree.specs.declared.kind.Kind.{Kind}
use Rattle.glob_tree.specs.declared.kind.Kind.TheVariants.{Dir, Shut, Other}
use Rattle.glob_tree.proofs.ContentLemmas.Membership.{Contains-cases, Contains-nil, list_all-contains}
use Rattle.glob_tree.proofs.ContentLemmas.Contents.{IsContent, IsContent-from_test, contains_kind_at, names_past-append}
use Rattle.glob_walk.proofs.GoalLemmas.Finds.{at_entry, at_name, run_entry, finds, Find, Miss, below, list_kind}
use Rattle.glob_walk.proofs.GoalLemmas.Finds.{list_names, found_names, descent_names, enter_names, meet_names}
use Rattle.glob_walk.proofs.GoalLemmas.ListingFinds.{names-literal, names-wild, names-wild_none, names-run}
use Rattle.glob_walk.proofs.GoalLemmas.ListingFinds.{names-recursive_none, names-levels}
use Rattle.glob_walk.proofs.GoalLemmas.FoundParts.{Contains-flat_map}
use Rattle.glob_walk.proofs.GoalLemmas.FoundParts.{hit-cond, miss-below, no_miss, miss_of_error}
use Rattle.glob_walk.proofs.GoalLemmas.ItemsFound.{items-finds}

module _ (c : Content) where
  -- a directory that cannot be listed is at these names below k
  abbrev ShutAt : Key → Key → ErrorKind → Type 0
  ShutAt k names kind = kind_at c (k ++ names) ≡ Some (Shut kind)

  shut-deeper : (k : Key) (n : Text) (ns names : Key) (kind : ErrorKind) → names ≡ n ∷ ns → ShutAt (k ++ n ∷ []) ns
      kind → ShutAt k names kind
  shut-deeper k n ns names kind e h = ap (kind_at c) (ap (λ ms. k ++ ms) e ∙ sym (append_assoc k (n ∷ []) ns)) ∙ h

  shut-listed : (k : Key) (each : DirEntry → List Find) (names : Key) (kind : ErrorKind) → ((e : DirEntry) → Contains
      (each e) (Miss names kind) → ShutAt k names kind) → Contains (list_names c k each) (Miss names kind)
      → ShutAt k names kind
  shut-listed k each names kind inner = by_kind (kind_at c k) refl
    where
      by_kind : (found : Option Kind) → kind_at c k ≡ found → Contains (list_kind c k found each) (Miss names kind) → ShutAt k names kind
      by_kind None e h = absurd (Contains-nil (Miss names kind) h)
      by_kind (Some Dir) e h = let (f, in', gives) = Contains-flat_map each (sorted_entries (children c k))
          (Miss names kind) h in inner f gives
      by_kind (Some (Shut other)) e h = ⊎_elim
          (λ same.
          let none : [] ≡ names = cc in
          let kinds : other ≡ kind = cc in
          ap (kind_at c) (ap (λ ns. k ++ ns) (sym none) ∙ append-nil k) ∙ e ∙ ap (λ x. Some (Shut x)) kinds)
          (λ later. absurd (Contains-nil (Miss names kind) later))
          (Contains-cases (Miss [] other) [] (Miss names kind) h)
      by_kind (Some Other) e h = absurd (Contains-nil (Miss names kind) h)

  module _ (o : MatchOptions) (directories : Bool) where
    abbrev Entered : List Text → Type 0
    Entered ts = (k : Key) (d : Bool) (names : Key) (kind : ErrorKind) → Contains (enter_names c o directories ts k d)
        (Miss names kind) → ShutAt k names kind

    abbrev Met : List Text → Type 0
    Met ts = (k : Key) (name : Text) (d : Bool) (names : Key) (kind : ErrorKind) → Contains
        (meet_names c o directories ts k name d) (Miss names kind) → ShutAt k names kind

    miss-nothing : Entered []
    unfolding enter_names
    miss-nothing k d names kind h = absurd (no_miss (not directories || d) names kind h)

    miss-met_nothing : Met []
    unfolding meet_names
    miss-met_nothing k name d names kind h = absurd (no_miss (is_entered o name d) names kind h)

    miss-met : (t : Text) (ts : List Text) → Entered ts → Met (t ∷ ts)
    unfolding meet_names
    miss-met t ts next k name d names kind h = next k d names kind ((hit-cond (matches_name o t name)
        (enter_names c o directories ts k d) (Miss names kind) h).1)

    miss-descent : (ts : List Text) → Met ts → (n : ℕ) (k names : Key) (kind : ErrorKind) → Contains (descent_names c o
        (meet_names c o directories ts) n k) (Miss names kind) → ShutAt k names kind
    unfolding descent_names
    miss-descent ts met zero k names kind h = absurd (Contains-nil (Miss names kind) h)
    miss-descent ts met (suc n) k names kind h = shut-listed k
        (λ e. below e.0 (run_entry c o directories ts n k e)) names kind
        (λ e in'.
        let here : List Find = meet_names c o directories ts (k ++ e.0 ∷ []) e.0 e.1 in
        let deep : List Find = descent_names c o (meet_names c o directories ts) n (k ++ e.0 ∷ []) in
        let (ns, same, gives) = miss-below e.0 (here ++ (cond (is_entered o e.0 e.1) deep [])) names kind in' in
        shut-deeper k e.0 ns names kind same (⊎_elim
        (λ left. met (k ++ e.0 ∷ []) e.0 e.1 ns kind left)
        (λ right. miss-descent ts met n (k ++ e.0 ∷ []) ns kind ((hit-cond (is_entered o e.0 e.1) deep (Miss ns kind) right).1))
        (Contains-append_cases here (cond (is_entered o e.0 e.1) deep []) (Miss ns kind) gives)))
        h

    miss-literal : (t : Text) (ts : List Text) → component_kind t ≡ Literal → Entered ts → Entered (t ∷ ts)
    miss-literal t ts is next k d names kind h =
        let (ns, same, in') = miss-below t (at_name c o directories t ts k) names kind
        (subst (λ fs. Contains fs (Miss names kind)) (names-literal c o directories t ts k d is) h) in
        shut-deeper k t ns names kind same (by_kind ns (kind_at c (k ++ t ∷ [])) in')
      where
        by_kind : (ns : Key) (found : Option Kind) → Contains (found_names found (λ x. enter_names c o directories ts
            (k ++ t ∷ []) x)) (Miss ns kind) → ShutAt (k ++ t ∷ []) ns kind
        by_kind ns None in' = absurd (Contains-nil (Miss ns kind) in')
        by_kind ns (Some stands) in' = next (k ++ t ∷ []) (is_dir stands) ns kind in'

    miss-wild : (t : Text) (ts : List Text) → component_kind t ≡ Wild → Entered ts → Entered (t ∷ ts)
    miss-wild t ts is next k false names kind h = absurd (Contains-nil (Miss names kind)
        (subst (λ fs. Contains fs (Miss names kind)) (names-wild_none c o directories t ts k is) h))
    miss-wild t ts is next k true names kind h = shut-listed k
        (λ e. below e.0 (at_entry c o directories t ts k e)) names kind
        (λ e in'.
        let (ns, same, gives) = miss-below e.0 (at_entry c o directories t ts k e) names kind in' in
        shut-deeper k e.0 ns names kind same (next (k ++ e.0 ∷ []) e.1 ns kind (hit-cond (matches_name o t e.0)
        (enter_names c o directories ts (k ++ e.0 ∷ []) e.1) (Miss ns kind) gives).1))
        (subst (λ fs. Contains fs (Miss names kind)) (names-wild c o directories t ts k is) h)

    miss-recursive : (t : Text) (ts : List Text) → component_kind t ≡ Recursive → Entered ts → Met ts → (b : Bool)
        → begins_recursive ts ≡ b → Entered (t ∷ ts)
    miss-recursive t ts is next met true more k d names kind h = next k d names kind
        (subst (λ fs. Contains fs (Miss names kind)) (names-run c o directories t ts k d is more) h)
    miss-recursive t ts is next met false last k false names kind h = absurd (Contains-nil (Miss names kind)
        (subst (λ fs. Contains fs (Miss names kind)) (names-recursive_none c o directories t ts k is last) h))
    miss-recursive t ts is next met false last k true names kind h = miss-descent ts met (levels c) k names kind
        (subst (λ fs. Contains fs (Miss names kind)) (names-levels c o directories t ts k is last) h)

    both_missed : (ts : List Text) → Entered ts × Met ts
    both_missed [] = (miss-nothing, miss-met_nothing)
    both_missed (t ∷ ts) = let next = both_missed ts in (by_kind next (component_kind t) refl, miss-met t ts next.0)
      where
        by_kind : Entered ts × Met ts → (kind : ComponentKind) → component_kind t ≡ kind → Entered (t ∷ ts)
        by_kind next Literal is = miss-literal t ts is next.0
        by_kind next Recursive is = miss-recursive t ts is next.0 next.1 (begins_recursive ts) refl
        by_kind next Wild is = miss-wild t ts is next.0

  -- nothing at or below the start of a readable content is shut
  readable-none : IsContent c → (pattern : Text) → is_readable c pattern ≡ true → (names : Key) (kind : ErrorKind)
      → ShutAt (origin c pattern) names kind → ⊥
  unfolding is_readable
  readable-none w pattern readable names kind shut =
      false≢true (ap is_none (sym (names_past-append (origin c pattern) names))
      ∙ list_all-contains (λ e. not (is_shut e.1) || is_none (names_past (origin c pattern) e.0)) c.kinds
      (origin c pattern ++ names, Shut kind) readable (contains_kind_at c (origin c pattern ++ names)
      (Shut kind) shut))

-- the written listing of a plain walk over a readable content has no error
pub no_error : (c : Content) (o : MatchOptions) (pattern : Text) → IsPlainWalk c pattern → is_readable c pattern ≡ true
    → (path : Text) (kind : ErrorKind) → Contains (items (listing c o pattern)) (Unread path kind) → ⊥
no_error c o pattern p readable path kind h =
    let (names, in') = miss_of_error (start pattern) path kind (finds c o pattern)
    (subst (λ is. Contains is (Unread path kind)) (items-finds c o pattern p) h) in
    readable-none c (IsContent-from_test c p.content) pattern readable names kind
    ((both_missed c o (ends_with slash pattern) (components pattern)).0 (origin c pattern) true names kind in')
