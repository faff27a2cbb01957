-- The cost of a walk, component by component.
use Rattle.std.proofs.Common.{◌≡◌, ℕ, zero, suc, ◌+◌, ◌*◌, ◌≤◌, Bool, true, false, cond, not, ◌||◌, List, [], ◌∷◌, ◌++◌}
use Rattle.std.proofs.Common.{length, flat_map, replicate, Option, Some, None, refl, sym, ap, subst, ◌∙◌, arith}
use Rattle.std.proofs.Common.{mul-add, add-mul, one-mul, mul-one, mul-le-mul_left, mul_comm}
use Rattle.std.specs.Prelude.{Contains}
use Rattle.std.specs.List.{list_all}
use Rattle.std.specs.Path.{has_no_slash}
use Rattle.std.specs.declared.io.ErrorKind.{ErrorKind}
use Rattle.std.proofs.lemmas.Bool.{false≢true, and_parts}
use Rattle.glob_text.specs.Text.{Text}
use Rattle.glob_text.specs.Pieces.{ends_with}
use Rattle.glob_text.specs.Characters.{slash}
use Rattle.glob_tree.specs.Content.{origin}
use Rattle.glob_pattern.specs.declared.options.MatchOptions.{MatchOptions}
use Rattle.glob_tree.specs.Paths.{child}
use Rattle.glob_tree.specs.Content.{Content, Key, DirEntry, kind_at, is_dir, children, list_result, sorted_entries}
use Rattle.glob_tree.specs.declared.kind.Kind.{Kind}
use Rattle.glob_tree.proofs.ContentLemmas.Membership.{Contains-head, Contains-tail}
use Rattle.glob_tree.proofs.ContentLemmas.Contents.{IsContent, IsContent-from_test, IsChild-list_result}
use Rattle.glob_tree.proofs.ContentLemmas.Directories.{LeadsTo, ListsAs, Read, Unreadable, ListsAs-from_leads}
use Rattle.glob_tree.proofs.ContentLemmas.Directories.{is_dir_at-kind, directory_kind}
use Rattle.glob_tree.proofs.ContentLemmas.Sorting.{Contains-sorted_entries}
use Rattle.glob_walk.specs.Components.{Literal, Recursive, Wild, component_kind, ComponentKind, begins_recursive}
use Rattle.glob_walk.specs.Components.{is_recursive, components, matches_name, start}
use Rattle.glob_walk.specs.Goal.{are_plain, is_plain, is_plain_component}
use Rattle.glob_walk.specs.Laws.{cost_per_key, IsPlainWalk}
use Rattle.glob_walk.specs.Walks.{Next, after_listing, by_name, descent, enter, is_entered, levels, list_directory}
use Rattle.glob_walk.specs.Walks.{listing, match_at, meet, Mark, Work, Give, Found, Unread, cost}
use Rattle.glob_walk.proofs.CostLemmas.Sizes.{size, size-all, size-child, size-deeper, size-some, sizes_of_children}
use Rattle.glob_walk.proofs.CostLemmas.Totals.{total, total-mul, total-sorted_entries}
use Rattle.glob_walk.proofs.GoalLemmas.ListingFinds.{Leads, Leads-entry, IsOwnName, own_name, resolve-own}
use Rattle.glob_walk.proofs.GoalLemmas.ListingFinds.{kind_found-own, no_specials}
use Rattle.glob_walk.proofs.GoalLemmas.ListingFinds.{plain-after}
use Rattle.glob_walk.proofs.GoalLemmas.NamedPaths.{LeadsTo-start}
use Rattle.glob_walk.proofs.GoalLemmas.PatternParts.{components-flat}
use Rattle.glob_walk.proofs.ListingLemmas.ComponentKinds.{kind-Literal, kind-Recursive, kind-Wild, literal_not_recursive}
use Rattle.glob_walk.proofs.ListingLemmas.Descending.{enter-literal, enter-wild, enter_none, enter-run}
use Rattle.glob_walk.proofs.ListingLemmas.Descending.{enter-recursive_none, enter-levels, is_entered-directory}
use Rattle.glob_walk.proofs.ListingLemmas.Looking.{directory_found}
use Rattle.glob_walk.proofs.ListingLemmas.Marks.{cost-append}

cost-replicate : (n : ℕ) (path : Text) → cost (replicate n (Work path)) ≡ n
cost-replicate zero path = refl
cost-replicate (suc n) path = ap suc (cost-replicate n path)

cost-cond : (b : Bool) (ms : List Mark) (n : ℕ) → (b ≡ true → cost ms ≤ n) → cost (cond b ms []) ≤ n
cost-cond true ms n less = less refl
cost-cond false ms n less = omega arith

-- entries cost at most the sum of their bounds, each with one unit
cost-entries : (each : Next) (f : DirEntry → ℕ) (es : List DirEntry) → ((e : DirEntry) → Contains es e → 1 + cost (each e.0 e.1) ≤ f e)
    → length es + cost (flat_map (λ e. each e.0 e.1) es) ≤ total f es
cost-entries each f [] less = omega arith
cost-entries each f (e ∷ es) less =
    omega (
      arith,
      cost-append (each e.0 e.1) (flat_map (λ g. each g.0 g.1) es),
      less e (Contains-head e es),
      cost-entries each f es (λ g in'. less g (Contains-tail e es g in')),
    )

total-ones : (es : List DirEntry) → total (λ e. 1) es ≡ length es
total-ones [] = refl
total-ones (e ∷ es) = omega (arith, total-ones es)

length-sorted_entries : (es : List DirEntry) → length (sorted_entries es) ≡ length es
length-sorted_entries es = sym (total-ones (sorted_entries es)) ∙ total-sorted_entries (λ e. 1) es ∙ total-ones es

-- the bound grows with the keys below
step_up : (a s t : ℕ) → 1 + t ≤ s → 1 ≤ a → 1 + a * t ≤ a * s
step_up a s t more some = omega (arith, mul-le-mul_left a more, mul-add a 1 t, mul-one a)

module _ (c : Content) (w : IsContent c) (o : MatchOptions) (directories : Bool) where
  abbrev keys : ℕ
  keys = length c.kinds

  -- the cost for each key of a component with wildcards, and of `**`
  abbrev wild_rate : List Text → ℕ
  wild_rate ts = 1 + cost_per_key keys ts

  abbrev run_rate : List Text → ℕ
  run_rate ts = 2 + keys * cost_per_key keys ts

  -- the keys at and below the children
  abbrev under : Key → ℕ
  under k = total (λ e. size c (k ++ e.0 ∷ [])) (children c k)

  -- a listing costs one unit, and for each entry one unit and what follows at it
  cost-listed : (path : Text) (k : Key) → LeadsTo c path k → (each : Next) (f : DirEntry → ℕ)
      → ((e : DirEntry) → Contains (children c k) e → 1 + cost (each e.0 e.1) ≤ f e)
      → cost (list_directory c path [] each) ≤ 1 + total f (children c k)
  cost-listed path k at each f less = by_answer (ListsAs-from_leads c path k at)
    where
      read : 1 + cost (replicate (length (children c k)) (Work path) ++ [] ++ flat_map (λ e. each e.0 e.1)
          (sorted_entries (children c k))) ≤ 1 + total f (children c k)
      read =
          omega (
            arith,
            cost-append (replicate (length (children c k)) (Work path) ++ []) (flat_map (λ e. each e.0 e.1)
                (sorted_entries (children c k))),
            cost-append (replicate (length (children c k)) (Work path)) [],
            cost-replicate (length (children c k)) path,
            length-sorted_entries (children c k),
            total-sorted_entries f (children c k),
            cost-entries each f (sorted_entries (children c k)) (λ e in'. less e (Contains-sorted_entries (children c k) e in')),
          )

      unread : (kind : ErrorKind) → cost (Give (Unread path kind) ∷ []) ≤ total f (children c k)
      unread kind = omega arith

      by_answer : ListsAs c path k → cost (Work path ∷ after_listing path [] each (list_result c path)) ≤ 1 + total f (children c k)
      by_answer (Read held answer) = rw answer (omega (arith, read))
      by_answer (Unreadable kind held answer) = rw answer (omega (arith, unread kind))

  -- if each entry costs, with its unit, at most a for each key at or below it, so does the listing
  cost-below : (path : Text) (k : Key) (kind : Kind) → kind_at c k ≡ Some kind → LeadsTo c path k → (each : Next) (a : ℕ) → 1 ≤ a
      → ((e : DirEntry) → Contains (children c k) e → 1 + cost (each e.0 e.1) ≤ a * size c (k ++ e.0 ∷ []))
      → 1 + cost (list_directory c path [] each) ≤ 1 + (1 + a * under k)
  cost-below path k kind held at each a some less =
      omega (
        arith,
        cost-listed path k at each (λ e. a * size c (k ++ e.0 ∷ [])) less,
        total-mul a
            (λ e. size c (k ++ e.0 ∷ [])) (children c k),
      )

  -- what follows at a path costs at most its rate for each key at or below it
  abbrev Costs : List Text → Type 0
  Costs ts = (path : Text) (k : Key) (d : Bool) → Leads c path k d → (kind : Kind) → kind_at c k ≡ Some kind
      → cost (enter c o directories ts path d) ≤ cost_per_key keys ts * size c k

  -- the same for what follows at an entry under `**`
  abbrev CostsMet : List Text → Type 0
  CostsMet ts = (path : Text) (k : Key) (name : Text) (d : Bool) → Leads c path k d → (kind : Kind) → kind_at c k ≡ Some kind
      → cost (meet c o directories ts path name d) ≤ keys * cost_per_key keys ts

  costs-nothing : Costs []
  unfolding enter
  costs-nothing path k d at kind held = by_test (not directories || d)
    where
      by_test : (b : Bool) → cost (cond b (Give (Found path) ∷ []) []) ≤ 0 * size c k
      by_test true = omega arith
      by_test false = omega arith

  met-nothing : CostsMet []
  unfolding meet
  met-nothing path k name d at kind held = by_test (is_entered o name d)
    where
      by_test : (b : Bool) → cost (cond b (Give (Found path) ∷ []) []) ≤ keys * 0
      by_test true = omega arith
      by_test false = omega arith

  per-plain : (t : Text) (ts : List Text) → is_recursive t ≡ false → cost_per_key keys (t ∷ ts) ≡ 1 + cost_per_key keys ts
  per-plain t ts e = rw e refl

  per-recursive : (t : Text) (ts : List Text) → is_recursive t ≡ true → begins_recursive ts ≡ false → cost_per_key keys
      (t ∷ ts) ≡ run_rate ts
  per-recursive t ts e last = rw (e, last) refl

  per-run : (t : Text) (ts : List Text) → is_recursive t ≡ true → begins_recursive ts ≡ true → cost_per_key keys
      (t ∷ ts) ≡ cost_per_key keys ts
  per-run t ts e more = rw (e, more) refl

  costs-literal : (t : Text) (ts : List Text) → component_kind t ≡ Literal → IsOwnName t → Costs ts → Costs (t ∷ ts)
  costs-literal t ts kind is next path k d at here held =
      rw (enter-literal c o directories t ts path d kind, per-plain t ts (literal_not_recursive t (kind-Literal t kind)))
      (omega (
        arith,
        by_kind (kind_at c (k ++ t ∷ [])) refl,
        add-mul 1 (cost_per_key keys ts) (size c k),
        one-mul
            (size c k),
        size-some c w k here held,
      ))
    where
      by_kind : (found : Option Kind) → kind_at c (k ++ t ∷ []) ≡ found
          → cost (by_name c (enter c o directories ts) t path d) ≤ 1 + cost_per_key keys ts * size c k
      by_kind None e = rw (is.special, kind_found-own c path k t w is at.resolved, e) (omega arith)
      by_kind (Some found) e = rw (is.special, kind_found-own c path k t w is at.resolved, e)
          (omega (
            arith,
            next (child path t) (k ++ t ∷ []) (is_dir found) (record {
              resolved = resolve-own c path k t found w is
                  at.resolved e;
              is = is_dir_at-kind c (k ++ t ∷ []) found e;
            }) found e,
            mul-le-mul_left (cost_per_key keys ts) (size-deeper c k t),
          ))

  costs-wild : (t : Text) (ts : List Text) → component_kind t ≡ Wild → is_plain_component false t ≡ true → Costs ts → Costs (t ∷ ts)
  costs-wild t ts kind plain next path k false at here held = rw (enter_none c o directories t ts path kind) (omega arith)
  costs-wild t ts kind plain next path k true at here held =
      rw (
        enter-wild c o directories t ts path kind
            ∙ ap (λ before. list_directory c path before (λ name d. match_at o (enter c o directories ts) t
            (child path name) name d)) (no_specials c o (enter c o directories ts) t path plain
            (kind-Wild t kind).0),
        per-plain t ts (kind-Wild t kind).1,
      )
      (omega (
        arith,
        cost-below path k here held (record { resolved = at.resolved; directory = at.is }) (λ name d. match_at o
            (enter c o directories ts) t (child path name) name d) (wild_rate ts) (omega arith) each,
        step_up (wild_rate ts) (size c k) (under k) (sizes_of_children c w k here held) (omega arith),
      ))
    where
      each : (e : DirEntry) → Contains (children c k) e → 1 + cost (match_at o (enter c o directories ts) t
          (child path e.0) e.0 e.1) ≤ wild_rate ts * size c (k ++ e.0 ∷ [])
      each e in' =
          let found = IsChild-list_result c w k e in' in
          omega (
            arith,
            cost-cond (matches_name o t e.0) (enter c o directories ts (child path e.0) e.1) (cost_per_key keys ts * size c (k ++ e.0 ∷ []))
                (λ m. next (child path e.0) (k ++ e.0 ∷ []) e.1 (Leads-entry c w path k
                (record { resolved = at.resolved; directory = at.is }) e in') found.kind found.held),
            add-mul 1 (cost_per_key keys ts) (size c (k ++ e.0 ∷ [])),
            one-mul (size c (k ++ e.0 ∷ [])),
            size-child c w k e in',
          )

  -- what follows at an entry in a descent: it is met, and then entered n levels down
  abbrev run_at : List Text → ℕ → (path name : Text) → Bool → List Mark
  run_at ts n path name d = meet c o directories ts (child path name) name d ++ (cond (is_entered o name d)
      (descent c o (meet c o directories ts) n (child path name)) [])

  -- the cost of a descent, for one less than its rate
  abbrev Descends : List Text → ℕ → Type 0
  Descends ts n = (path : Text) (k : Key) (kind : Kind) → kind_at c k ≡ Some kind → LeadsTo c path k
      → cost (descent c o (meet c o directories ts) n path) + run_rate ts ≤ run_rate ts * size c k + 1

  costs-entered : (ts : List Text) (n : ℕ) → Descends ts n → (path : Text) (k : Key) → LeadsTo c path k →
      (e : DirEntry) → Contains (children c k) e → (b : Bool) → is_entered o e.0 e.1 ≡ b
      → cost (cond b (descent c o (meet c o directories ts) n (child path e.0)) []) + run_rate ts ≤ run_rate ts * size c (k ++ e.0 ∷ []) + 1
  costs-entered ts n below path k at e in' false entered =
      omega (arith, mul-le-mul_left (run_rate ts) (size-child c w k e in'), mul-one (run_rate ts))
  costs-entered ts n below path k at e in' true entered =
      let found = IsChild-list_result c w k e in' in
      let leads = Leads-entry c w path k at e in' in
      below (child path e.0) (k ++ e.0 ∷ []) found.kind found.held (record {
        resolved = leads.resolved;
        directory =
            leads.is ∙ is_entered-directory o e.0 e.1 entered;
      })

  costs-run_at : (ts : List Text) → CostsMet ts → (n : ℕ) → Descends ts n → (path : Text) (k : Key) → LeadsTo c path k
      → (e : DirEntry) → Contains (children c k) e
      → 1 + cost (run_at ts n path e.0 e.1) ≤ run_rate ts * size c (k ++ e.0 ∷ [])
  costs-run_at ts next n below path k at e in' =
      let found = IsChild-list_result c w k e in' in
      omega (
        arith,
        next (child path e.0) (k ++ e.0 ∷ []) e.0 e.1 (Leads-entry c w path k at e in') found.kind found.held,
        cost-append (meet c o directories ts (child path e.0) e.0 e.1) (cond (is_entered o e.0 e.1)
            (descent c o (meet c o directories ts) n (child path e.0)) []),
        costs-entered ts n below path k at e in' (is_entered o e.0 e.1) refl,
      )

  costs-descent : (ts : List Text) → CostsMet ts → (n : ℕ) → Descends ts n
  unfolding descent
  costs-descent ts next zero path k kind held at =
      omega (arith, mul-le-mul_left (run_rate ts) (size-some c w k kind held), mul-one (run_rate ts))
  costs-descent ts next (suc n) path k kind held at =
      omega (
        arith,
        cost-below path k kind held at (run_at ts n path) (run_rate ts) (omega arith) (costs-run_at ts next n
            (costs-descent ts next n) path k at),
        mul-le-mul_left (run_rate ts) (sizes_of_children c w k kind held),
        mul-add (run_rate ts) 1 (under k),
        mul-one (run_rate ts),
      )

  costs-recursive : (t : Text) (ts : List Text) → component_kind t ≡ Recursive → begins_recursive ts ≡ false → CostsMet ts → Costs (t ∷ ts)
  costs-recursive t ts kind last next path k false at here held = rw (enter-recursive_none c o directories t ts path
      kind last) (omega arith)
  costs-recursive t ts kind last next path k true at here held =
      rw (enter-levels c o directories t ts path kind last, per-recursive t ts (kind-Recursive t kind) last)
      (omega (arith, costs-descent ts next (levels c) path k here held (record { resolved = at.resolved; directory = at.is })))

  costs-run : (t : Text) (ts : List Text) → component_kind t ≡ Recursive → begins_recursive ts ≡ true → Costs ts → Costs (t ∷ ts)
  costs-run t ts kind more next path k d at here held =
      rw (enter-run c o directories t ts path d kind more, per-run t ts (kind-Recursive t kind) more) (next path k d at here held)

  costs-met : (t : Text) (ts : List Text) → is_recursive t ≡ false → Costs ts → CostsMet (t ∷ ts)
  unfolding meet
  costs-met t ts plain next path k name d at here held =
      rw (per-plain t ts plain)
      (omega (
        arith,
        cost-cond (matches_name o t name) (enter c o directories ts path d) (cost_per_key keys ts * size c k)
            (λ m. next path k d at here held),
        mul-le-mul_left (cost_per_key keys ts) (size-all c k),
        mul-add keys 1 (cost_per_key keys ts),
        mul_comm keys (cost_per_key keys ts),
      ))

  record EachCosts (ts : List Text) : Type 0 where
    entered : are_plain false ts ≡ true → Costs ts
    met : begins_recursive ts ≡ false → are_plain true ts ≡ true → CostsMet ts

  after_run : (ts : List Text) → begins_recursive ts ≡ true → are_plain true ts ≡ true → EachCosts ts → Costs ts
  after_run [] more plain next = absurd (false≢true more)
  after_run (t ∷ ts) more plain next = next.entered (plain-after t ts more plain)

  each_costs-cons : (t : Text) (ts : List Text) → has_no_slash t ≡ true → EachCosts ts → EachCosts (t ∷ ts)
  each_costs-cons t ts flat next = record {
    entered = λ plain.
        let both = and_parts (is_plain_component false t) (are_plain (is_recursive t) ts) plain in
        by_kind both.0 both.1 (component_kind t) refl;
    met = λ last plain.
        let both = and_parts (is_plain_component true t) (are_plain (is_recursive t) ts) plain in
        costs-met t ts last (next.entered (subst (λ b. are_plain b ts ≡ true) last both.1));
  }
    where
      by_run : component_kind t ≡ Recursive → are_plain true ts ≡ true → (b : Bool) → begins_recursive ts ≡ b → Costs (t ∷ ts)
      by_run kind plain true more = costs-run t ts kind more (after_run ts more plain next)
      by_run kind plain false last = costs-recursive t ts kind last (next.met last plain)

      by_kind : is_plain_component false t ≡ true → are_plain (is_recursive t) ts ≡ true → (kind : ComponentKind)
          → component_kind t ≡ kind → Costs (t ∷ ts)
      by_kind here further Literal kind =
          costs-literal t ts kind (own_name false t here flat) (next.entered (subst (λ b. are_plain b ts ≡ true)
          (literal_not_recursive t (kind-Literal t kind)) further))
      by_kind here further Recursive kind = by_run kind (subst (λ b. are_plain b ts ≡ true) (kind-Recursive t kind)
          further) (begins_recursive ts) refl
      by_kind here further Wild kind = costs-wild t ts kind here (next.entered (subst (λ b. are_plain b ts ≡ true)
          (kind-Wild t kind).1 further))

  each_costs : (ts : List Text) → list_all has_no_slash ts ≡ true → EachCosts ts
  each_costs [] slashless = record { entered = λ plain. costs-nothing; met = λ last plain. met-nothing }
  each_costs (t ∷ ts) slashless =
      let flat = and_parts (has_no_slash t) (list_all has_no_slash ts) slashless in
      each_costs-cons t ts flat.0 (each_costs ts flat.1)

-- the whole walk
pub plain_walk_costs : (c : Content) (o : MatchOptions) (pattern : Text) → IsPlainWalk c pattern
    → cost (listing c o pattern) ≤ 1 + cost_per_key (length c.kinds) (components pattern) * length c.kinds
unfolding listing is_plain
plain_walk_costs c o pattern p =
    let w = IsContent-from_test c p.content in
    let at = LeadsTo-start c w pattern in
    let found = directory_kind c (origin c pattern) at.directory in
    let plain = (and_parts _ (are_plain false (components pattern)) p.plain).1 in
    let n = length c.kinds in
    rw (directory_found c (start pattern) (origin c pattern) at)
    (omega (
      arith,
      (each_costs c w o (ends_with slash pattern) (components pattern) (components-flat pattern)).entered plain
          (start pattern) (origin c pattern) true
          (record { resolved = at.resolved; is = at.directory }) found.0 found.1,
      mul-le-mul_left (cost_per_key n (components pattern)) (size-all c (origin c pattern)),
    ))
