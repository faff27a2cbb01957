-- Each key whose names the components take is found, or is below a directory that cannot be listed.
use Rattle.std.proofs.Common.{◌≡◌, ◌≢◌, ℕ, zero, suc, ◌+◌, ◌≤◌, ◌⊎◌, inl, inr, ⊎_elim, Bool, true, false, cond, not}
use Rattle.std.proofs.Common.{◌||◌, List, [], ◌∷◌, ◌++◌, length, flat_map, Option, Some, None, refl, sym, ap, subst}
use Rattle.std.proofs.Common.{◌∙◌, arith}
use Rattle.std.specs.Prelude.{Contains, bytes_eq, option_map, unwrap_or}
use Rattle.std.specs.declared.io.ErrorKind.{ErrorKind}
use Rattle.std.proofs.lemmas.Bool.{false≢true, both_ways, and_parts, and_from}
use Rattle.std.proofs.lemmas.List.{append_assoc, append-nil, length-append}
use Rattle.std.proofs.lemmas.List.Elements.{Contains-append_left, Contains-append_right}
use Rattle.std.proofs.lemmas.Option.{same_Some}
use Rattle.std.proofs.lemmas.Slice.Eq.{bytes_eq-Decides}
use Rattle.glob_text.specs.Text.{Text}
use Rattle.glob_tree.specs.Content.{Content, Key, DirEntry, kind_at, is_dir, is_dir_at, children, sorted_entries}
use Rattle.glob_walk.specs.Components.{Literal, Recursive, Wild, component_kind, ComponentKind, begins_recursive}
use Rattle.glob_walk.specs.Components.{is_recursive, is_literal, matches_name}
use Rattle.glob_walk.specs.Goal.{walk_takes, walk_takes_name}
use Rattle.glob_walk.specs.Walks.{is_entered, levels}
use Rattle.glob_pattern.specs.declared.options.MatchOptions.{MatchOptions}
use Rattle.glob_tree.specs.declared.kind.Kind.{Kind}
use Rattle.glob_tree.specs.declared.kind.Kind.TheVariants.{Dir, Shut, Other}
use Rattle.glob_tree.proofs.ContentLemmas.Membership.{Contains-head}
use Rattle.glob_tree.proofs.ContentLemmas.Contents.{IsContent, listed_child}
use Rattle.glob_walk.proofs.ListingLemmas.Descending.{depth}
use Rattle.glob_tree.proofs.ContentLemmas.Directories.{is_dir_at-kind}
use Rattle.glob_tree.proofs.ContentLemmas.Sorting.{sorted_entries-contains}
use Rattle.glob_walk.proofs.GoalLemmas.Finds.{at_entry, run_entry, Find, Hit, Miss, deepen, below, list_kind}
use Rattle.glob_walk.proofs.GoalLemmas.Finds.{list_names, found_names, descent_names, enter_names, meet_names}
use Rattle.glob_walk.proofs.ListingLemmas.ComponentKinds.{kind-Literal, kind-Recursive, kind-Wild, literal_not_recursive}
use Rattle.glob_walk.proofs.GoalLemmas.ListingFinds.{names-literal, names-wild, names-run, names-levels}
use Rattle.glob_walk.proofs.GoalLemmas.FoundIsTaken.{IsTakenAt, IsMet, ends-cons, wild_takes}
use Rattle.glob_walk.proofs.GoalLemmas.FoundParts.{flat_map-contains, map-contains}
use Rattle.glob_pattern.specs.Matching.Components.{is_open}
use Rattle.glob_walk.proofs.GoalLemmas.KeysBelow.{held_above, on_the_way, Here, Here-dir, held-from_deeper}
use Rattle.glob_walk.proofs.GoalLemmas.TakenNames.{takes-one, takes-none, run-cases, run-run}

-- the key with these names below k is below a shut one, which is a miss
pub record IsCovered (c : Content) (finds : List Find) (k names : Key) : Type 0 where
  pub upper : Key
  pub lower : Key
  pub kind : ErrorKind
  pub split : names ≡ upper ++ lower
  pub longer : lower ≢ []
  pub shut : kind_at c (k ++ upper) ≡ Some (Shut kind)
  pub miss : Contains finds (Miss upper kind)

abbrev pub FoundOrCovered : Content → List Find → Key → Key → Type 0
FoundOrCovered c finds k names = Contains finds (Hit names) ⊎ IsCovered c finds k names

module _ (c : Content) (w : IsContent c) where
  FoundOrCovered-more : (xs ys : List Find) → ((f : Find) → Contains xs f → Contains ys f) → (k names : Key)
      → FoundOrCovered c xs k names → FoundOrCovered c ys k names
  FoundOrCovered-more xs ys more k names h = ⊎_elim (λ hit. inl (more (Hit names) hit))
      (λ is. inr (record {
        upper = is.upper;
        lower = is.lower;
        kind = is.kind;
        split = is.split;
        longer = is.longer;
        shut = is.shut;
        miss = more (Miss is.upper is.kind) is.miss;
      })) h

  FoundOrCovered-below : (n : Text) (xs : List Find) (k ns : Key) → FoundOrCovered c xs (k ++ n ∷ []) ns
      → FoundOrCovered c (below n xs) k (n ∷ ns)
  FoundOrCovered-below n xs k ns h = ⊎_elim (λ hit. inl (map-contains (deepen n) xs (Hit ns) hit))
      (λ is. inr (record {
        upper = n ∷ is.upper;
        lower = is.lower;
        kind = is.kind;
        split = ap (λ ms. n ∷ ms) is.split;
        longer = is.longer;
        shut = ap (kind_at c) (sym (append_assoc k (n ∷ []) is.upper)) ∙ is.shut;
        miss = map-contains (deepen n) xs (Miss is.upper is.kind) is.miss;
      })) h

  FoundOrCovered-cond : (b : Bool) (xs : List Find) (k names : Key) → b ≡ true → FoundOrCovered c xs k names
      → FoundOrCovered c (cond b xs []) k names
  FoundOrCovered-cond true xs k names e h = h
  FoundOrCovered-cond false xs k names e h = absurd (false≢true e)

  -- an entry of a directory, or a miss if the directory is shut
  FoundOrCovered-listed : (k : Key) (n : Text) (ns : Key) (kind : Kind) → kind_at c (k ++ n ∷ []) ≡ Some kind →
      (each : DirEntry → List Find) → FoundOrCovered c (each (n, is_dir kind)) k (n ∷ ns) → FoundOrCovered c
      (list_names c k each) k (n ∷ ns)
  FoundOrCovered-listed k n ns kind held each h = by_kind (kind_at c k) refl (held_above c w k n kind held)
    where
      cons_some : n ∷ ns ≢ []
      cons_some e = cc

      by_kind : (found : Option Kind) → kind_at c k ≡ found → unwrap_or (option_map is_dir (kind_at c k)) false ≡ true
          → FoundOrCovered c (list_kind c k found each) k (n ∷ ns)
      by_kind None e d = absurd (both_ways false refl (sym (ap (λ x. unwrap_or (option_map is_dir x) false) e) ∙ d))
      by_kind (Some Dir) e d = FoundOrCovered-more (each (n, is_dir kind)) (flat_map each (sorted_entries (children c k)))
          (λ f in'. flat_map-contains each (sorted_entries (children c k)) (n, is_dir kind) f (sorted_entries-contains
          (children c k) (n, is_dir kind) (listed_child c k n kind held)) in') k (n ∷ ns) h
      by_kind (Some (Shut error)) e d = inr (record {
        upper = [];
        lower = n ∷ ns;
        kind = error;
        split = refl;
        longer = cons_some;
        shut = ap (kind_at c) (append-nil k) ∙ e;
        miss = Contains-head (Miss [] error) [];
      })
      by_kind (Some Other) e d = absurd (both_ways false refl (sym (ap (λ x. unwrap_or (option_map is_dir x) false) e) ∙ d))

  module _ (o : MatchOptions) (directories : Bool) where
    abbrev Entered : List Text → Type 0
    Entered ts = (k : Key) (d : Bool) → Here c k d → (names : Key) → IsTakenAt c o directories ts k names
        → FoundOrCovered c (enter_names c o directories ts k d) k names

    abbrev Met : List Text → Text → Type 0
    Met ts t = (k : Key) (name : Text) (d : Bool) → Here c k d → (names : Key) → IsMet c o directories t ts k name
        names → FoundOrCovered c (meet_names c o directories ts k name d) k names

    record EachFound (ts : List Text) : Type 0 where
      entered : Entered ts
      met : begins_recursive ts ≡ false → (t : Text) → is_recursive t ≡ true → Met ts t

    -- the kind at the key itself
    kind-here : (k : Key) (d : Bool) (at : Here c k d) (names : Key) (kind : Kind) → names ≡ [] → kind_at c
        (k ++ names) ≡ Some kind → is_dir kind ≡ d
    kind-here k d at names kind e held =
        ap is_dir (same_Some kind at.kind (sym held ∙ ap (kind_at c) (ap (λ ns. k ++ ns) e ∙ append-nil k) ∙ at.held)) ∙ at.is

    found-nothing : Entered []
    unfolding enter_names
    found-nothing k d at [] is = FoundOrCovered-cond (not directories || d) (Hit [] ∷ []) k [] (by_tests directories d
        (is_dir is.kind) (kind-here k d at [] is.kind refl is.held) is.allowed) (inl (Contains-head (Hit []) []))
      where
        by_tests : (b d x : Bool) → x ≡ d → (x || not (b || false)) ≡ true → (not b || d) ≡ true
        by_tests true d true e h = sym e
        by_tests true d false e h = absurd (false≢true h)
        by_tests false d x e h = refl
    found-nothing k d at (n ∷ ns) is = absurd (false≢true is.taken)

    found-met_nothing : (t : Text) → is_recursive t ≡ true → Met [] t
    unfolding meet_names
    found-met_nothing t r k name d at names is =
        let (e, open') = is.met in
        let directory : d ≡ true = sym (kind-here k d at names is.kind e is.held) ∙ by_tests directories
        (is_dir is.kind) (is_recursive t) r is.allowed in
        subst (FoundOrCovered c (cond (is_entered o name d) (Hit [] ∷ []) []) k) (sym e)
        (FoundOrCovered-cond (is_entered o name d) (Hit [] ∷ []) k [] (and_from d (is_open o name) directory open')
        (inl (Contains-head (Hit []) [])))
      where
        by_tests : (b x r : Bool) → r ≡ true → (x || not (b || r)) ≡ true → x ≡ true
        by_tests b true r e h = refl
        by_tests true false r e h = absurd (false≢true h)
        by_tests false false true e h = absurd (false≢true h)
        by_tests false false false e h = absurd (false≢true e)

    found-met : (u : Text) (us : List Text) → is_recursive u ≡ false → Entered us → (t : Text) → Met (u ∷ us) t
    unfolding meet_names
    found-met u us plain next t k name d at names is =
        let both = and_parts (matches_name o u name) (walk_takes o false us names)
        (sym (takes-one o true u us name names plain) ∙ is.met) in
        FoundOrCovered-cond (matches_name o u name) (enter_names c o directories us k d) k names both.0
        (next k d at names (record {
          kind = is.kind;
          held = is.held;
          taken = both.1;
          allowed = ap
              (λ x. is_dir is.kind || not (directories || x)) (sym (ends-cons u us plain)) ∙ is.allowed;
        }))

    -- a hit of the component and of the components after it
    record IsStep (t : Text) (ts : List Text) (k : Key) (n : Text) (ns : Key) : Type 0 where
      matched : walk_takes_name o false t n ≡ true
      found : Kind
      stands : kind_at c (k ++ n ∷ []) ≡ Some found
      hit : IsTakenAt c o directories ts (k ++ n ∷ []) ns

    step_of : (t : Text) (ts : List Text) (k : Key) (n : Text) (ns : Key) → is_recursive t ≡ false → IsTakenAt c o
        directories (t ∷ ts) k (n ∷ ns) → IsStep t ts k n ns
    step_of t ts k n ns plain is =
        let both = and_parts (walk_takes_name o false t n) (walk_takes o false ts ns)
        (sym (takes-one o false t ts n ns plain) ∙ is.taken) in
        let way = on_the_way c w k n ns is.kind is.held in
        record {
          matched = both.0;
          found = way.0;
          stands = way.1;
          hit = record {
            kind = is.kind;
            held = held-from_deeper c k n ns (Some is.kind) is.held;
            taken = both.1;
            allowed = ap (λ x. is_dir is.kind || not (directories || x)) (sym (ends-cons t ts plain)) ∙ is.allowed;
          };
        }

    found-literal : (t : Text) (ts : List Text) → component_kind t ≡ Literal → Entered ts → Entered (t ∷ ts)
    found-literal t ts kind next k d at [] is = absurd (takes-none o false t ts is.taken)
    found-literal t ts kind next k d at (n ∷ ns) is =
        let literal = kind-Literal t kind in
        let step = step_of t ts k n ns (literal_not_recursive t literal) is in
        let same : t ≡ n = literal_is literal step.matched in
        subst (λ fs. FoundOrCovered c fs k (n ∷ ns)) (sym (names-literal c o directories t ts k d kind))
        (subst (λ m. FoundOrCovered c (below m (found_names (kind_at c (k ++ m ∷ [])) (λ x. enter_names c o directories
        ts (k ++ m ∷ []) x))) k (n ∷ ns)) (sym same)
        (subst (λ found. FoundOrCovered c (below n (found_names found (λ x. enter_names c o directories ts
        (k ++ n ∷ []) x))) k (n ∷ ns)) (sym step.stands)
        (FoundOrCovered-below n (enter_names c o directories ts (k ++ n ∷ []) (is_dir step.found)) k ns
        (next (k ++ n ∷ []) (is_dir step.found) (record { kind = step.found; held = step.stands; is = refl }) ns step.hit))))
      where
        literal_is : is_literal t ≡ true → walk_takes_name o false t n ≡ true → t ≡ n
        literal_is literal took = (bytes_eq-Decides t n).0 (subst (λ b. cond (not b) (matches_name o t n)
            (bytes_eq t n) ≡ true) literal took)

    -- a key with something below it is a directory
    is_directory_here : (k : Key) (d : Bool) → Here c k d → (n : Text) (found : Kind) → kind_at c (k ++ n ∷ []) ≡ Some found → d ≡ true
    is_directory_here k d at n found held = sym (Here-dir c k d at) ∙ held_above c w k n found held

    found-wild : (t : Text) (ts : List Text) → component_kind t ≡ Wild → Entered ts → Entered (t ∷ ts)
    found-wild t ts kind next k d at [] is = absurd (takes-none o false t ts is.taken)
    found-wild t ts kind next k d at (n ∷ ns) is =
        let step = step_of t ts k n ns (kind-Wild t kind).1 is in
        subst (λ b. FoundOrCovered c (enter_names c o directories (t ∷ ts) k b) k (n ∷ ns))
        (sym (is_directory_here k d at n step.found step.stands))
        (subst (λ fs. FoundOrCovered c fs k (n ∷ ns)) (sym (names-wild c o directories t ts k kind))
        (FoundOrCovered-listed k n ns step.found step.stands (λ e. below e.0 (at_entry c o directories t ts k e))
        (FoundOrCovered-below n (cond (matches_name o t n) (enter_names c o directories ts (k ++ n ∷ []) (is_dir step.found)) []) k ns
        (FoundOrCovered-cond (matches_name o t n) (enter_names c o directories ts (k ++ n ∷ []) (is_dir step.found))
        (k ++ n ∷ []) ns (sym (wild_takes o t n (kind-Wild t kind).0) ∙ step.matched)
        (next (k ++ n ∷ []) (is_dir step.found) (record { kind = step.found; held = step.stands; is = refl }) ns step.hit)))))

    found-descent : (t : Text) (ts : List Text) → is_recursive t ≡ true → Met ts t → (n : ℕ) (k names : Key)
        → is_dir_at c k ≡ true → levels c ≤ length k + n → IsTakenAt c o directories (t ∷ ts) k names
        → FoundOrCovered c (descent_names c o (meet_names c o directories ts) n k) k names
    unfolding descent_names
    found-descent t ts r next n k [] d l is = absurd (takes-none o false t ts is.taken)
    found-descent t ts r next zero k (m ∷ ms) d l is = absurd (omega (arith, l, depth c k d))
    found-descent t ts r next (suc n) k (m ∷ ms) d l is =
        let (found, stands) = on_the_way c w k m ms is.kind is.held in
        let met : List Find = meet_names c o directories ts (k ++ m ∷ []) m (is_dir found) in
        let deep : List Find = cond (is_entered o m (is_dir found)) (descent_names c o (meet_names c o directories ts)
        n (k ++ m ∷ [])) [] in
        let deeper = held-from_deeper c k m ms (Some is.kind) is.held in
        FoundOrCovered-listed k m ms found stands
        (λ e. below e.0 (run_entry c o directories ts n k e))
        (FoundOrCovered-below m (met ++ deep) k ms
        (⊎_elim
        (λ by. FoundOrCovered-more met (met ++ deep) (λ f in'. Contains-append_left met deep f in') (k ++ m ∷ []) ms
        (next (k ++ m ∷ []) m (is_dir found) (record { kind = found; held = stands; is = refl }) ms
        (record { kind = is.kind; held = deeper; met = by; allowed = is.allowed })))
        (λ on. from_below found stands deeper on
        (λ directory. found-descent t ts r next n (k ++ m ∷ []) ms directory (omega (
          arith,
          l,
          length-append k
              (m ∷ []),
        )) (record { kind = is.kind; held = deeper; taken = on.1; allowed = is.allowed })) ms refl)
        (run-cases o false t ts m ms r is.taken)))
      where
        from_below : (found : Kind) → kind_at c (k ++ m ∷ []) ≡ Some found → kind_at c ((k ++ m ∷ []) ++ ms) ≡ Some is.kind
            → (is_open o m ≡ true) × (walk_takes o false (t ∷ ts) ms ≡ true)
            → (is_dir_at c (k ++ m ∷ []) ≡ true → FoundOrCovered c (descent_names c o (meet_names c o directories ts) n
            (k ++ m ∷ [])) (k ++ m ∷ []) ms) → (ls : Key) → ms ≡ ls
            → FoundOrCovered c (meet_names c o directories ts (k ++ m ∷ []) m (is_dir found) ++
            (cond (is_entered o m (is_dir found)) (descent_names c o (meet_names c o directories ts) n
            (k ++ m ∷ [])) [])) (k ++ m ∷ []) ms
        from_below found stands deeper on further [] e = absurd (takes-none o false t ts
            (subst (λ ls. walk_takes o false (t ∷ ts) ls ≡ true) e on.1))
        from_below found stands deeper on further (l' ∷ ls) e =
            let met : List Find = meet_names c o directories ts (k ++ m ∷ []) m (is_dir found) in
            let deep : List Find = descent_names c o (meet_names c o directories ts) n (k ++ m ∷ []) in
            let way = on_the_way c w (k ++ m ∷ []) l' ls is.kind (ap (λ x. kind_at c ((k ++ m ∷ []) ++ x)) (sym e) ∙ deeper) in
            let directory : is_dir_at c (k ++ m ∷ []) ≡ true = held_above c w (k ++ m ∷ []) l' way.0 way.1 in
            let is_directory : is_dir found ≡ true = sym (is_dir_at-kind c (k ++ m ∷ []) found stands) ∙ directory in
            FoundOrCovered-more (cond (is_entered o m (is_dir found)) deep [])
            (met ++ (cond (is_entered o m (is_dir found)) deep [])) (λ f in'. Contains-append_right met
            (cond (is_entered o m (is_dir found)) deep []) f in') (k ++ m ∷ []) ms
            (FoundOrCovered-cond (is_entered o m (is_dir found)) deep (k ++ m ∷ []) ms (and_from (is_dir found)
            (is_open o m) is_directory on.0) (further directory))

    found-run : (t : Text) (ts : List Text) → is_recursive t ≡ true → begins_recursive ts ≡ true → (k names : Key)
        → IsTakenAt c o directories (t ∷ ts) k names → IsTakenAt c o directories ts k names
    found-run t [] r more k names is = absurd (false≢true more)
    found-run t (u ∷ us) r more k names is = record {
      kind = is.kind;
      held = is.held;
      taken = run-run o false t u us
          names r more is.taken;
      allowed = is.allowed;
    }

    found-recursive : (t : Text) (ts : List Text) → component_kind t ≡ Recursive → EachFound ts → (b : Bool)
        → begins_recursive ts ≡ b → Entered (t ∷ ts)
    found-recursive t ts kind next true more k d at names is =
        subst (λ fs. FoundOrCovered c fs k names) (sym (names-run c o directories t ts k d kind more))
        (next.entered k d at names (found-run t ts (kind-Recursive t kind) more k names is))
    found-recursive t ts kind next false last k d at [] is = absurd (takes-none o false t ts is.taken)
    found-recursive t ts kind next false last k d at (n ∷ ns) is =
        let (found, stands) = on_the_way c w k n ns is.kind is.held in
        subst (λ b. FoundOrCovered c (enter_names c o directories (t ∷ ts) k b) k (n ∷ ns)) (sym (is_directory_here k d at n found stands))
        (subst (λ fs. FoundOrCovered c fs k (n ∷ ns)) (sym (names-levels c o directories t ts k kind last))
        (found-descent t ts (kind-Recursive t kind) (next.met last t (kind-Recursive t kind)) (levels c) k (n ∷ ns)
        (held_above c w k n found stands) (omega arith) is))

    each_is_found : (ts : List Text) → EachFound ts
    each_is_found [] = record { entered = found-nothing; met = λ last t r. found-met_nothing t r }
    each_is_found (t ∷ ts) =
        let next = each_is_found ts in
        record { entered = by_kind next (component_kind t) refl; met = λ plain u r. found-met t ts plain next.entered u }
      where
        by_kind : EachFound ts → (kind : ComponentKind) → component_kind t ≡ kind → Entered (t ∷ ts)
        by_kind next Literal kind = found-literal t ts kind next.entered
        by_kind next Recursive kind = found-recursive t ts kind next (begins_recursive ts) refl
        by_kind next Wild kind = found-wild t ts kind next.entered

    -- each key whose names the components take is found or covered
    pub taken_are_found : (ts : List Text) → Entered ts
    taken_are_found ts = (each_is_found ts).entered
