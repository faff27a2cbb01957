-- Names are found once, and in order.
use Rattle.std.proofs.Common.{◌≡◌, ℕ, zero, suc, ◌-◌, ◌<◌, ⊎_elim, Bool, true, false, cond, not, ◌||◌, List, [], ◌∷◌}
use Rattle.std.proofs.Common.{◌++◌, length, drop, flat_map, Option, Some, None, refl, sym, ap, subst, ◌∙◌, arith}
use Rattle.std.specs.Prelude.{Contains}
use Rattle.std.specs.List.{list_any}
use Rattle.std.specs.Cmp.Lexicographic.{slice_cmp}
use Rattle.std.specs.Ordering.{nat_cmp}
use Rattle.std.specs.declared.cmp.Ordering.TheVariants.{Less}
use Rattle.std.proofs.lemmas.Bool.{both_ways, or_parts}
use Rattle.std.proofs.lemmas.List.Elements.{Contains-append_cases}
use Rattle.glob_text.specs.Text.{Text}
use Rattle.glob_tree.specs.Content.{Content, Key, DirEntry, kind_at, is_dir, children, sorted_entries}
use Rattle.glob_walk.specs.Components.{Literal, Recursive, Wild, component_kind, ComponentKind, begins_recursive}
use Rattle.glob_walk.specs.Components.{is_recursive, matches_name}
use Rattle.glob_walk.specs.Walks.{is_entered, levels}
use Rattle.glob_pattern.specs.declared.options.MatchOptions.{MatchOptions}
use Rattle.glob_tree.specs.declared.kind.Kind.{Kind}
use Rattle.glob_tree.specs.declared.kind.Kind.TheVariants.{Dir, Shut, Other}
use Rattle.glob_tree.proofs.ContentLemmas.Membership.{Contains-head, Contains-tail, Contains-nil}
use Rattle.glob_tree.proofs.ContentLemmas.Contents.{IsContent}
use Rattle.glob_tree.proofs.ContentLemmas.Sorting.{IsRising, IsRising-sorted_entries, children_apart}
use Rattle.glob_walk.proofs.GoalLemmas.Finds.{at_entry, at_name, past_entry, run_entry, Find, Hit, Miss, deepen, below}
use Rattle.glob_walk.proofs.GoalLemmas.Finds.{list_kind, list_names, found_names, descent_names, enter_names}
use Rattle.glob_walk.proofs.GoalLemmas.Finds.{meet_names}
use Rattle.glob_walk.proofs.ListingLemmas.ComponentKinds.{kind-Recursive}
use Rattle.glob_walk.proofs.GoalLemmas.ListingFinds.{names-literal, names-wild, names-wild_none, names-run}
use Rattle.glob_walk.proofs.GoalLemmas.ListingFinds.{names-recursive_none, names-levels}
use Rattle.glob_walk.proofs.GoalLemmas.FoundParts.{Contains-flat_map, hit-below, hit-cond, hit-one, hit-listed}

-- each element is related to the elements after it
abbrev pub Pairs : {X : Type 0} → (X → X → Type 0) → List X → Type 0
Pairs Q [] = Unit {0}
Pairs Q (x ∷ xs) = ((y : _) → Contains xs y → Q x y) × Pairs Q xs

Pairs-append : {X : Type 0} (Q : X → X → Type 0) (xs ys : List X) → Pairs Q xs → Pairs Q ys →
    ((x y : X) → Contains xs x → Contains ys y → Q x y) → Pairs Q (xs ++ ys)
Pairs-append Q [] ys a b across = b
Pairs-append Q (x ∷ xs) ys a b across = (
  λ y in'. ⊎_elim (λ here. a.0 y here) (λ there. across x y (Contains-head x xs) there) (Contains-append_cases xs ys y in'),
  Pairs-append Q xs ys a.1 b (λ z y in' there. across z y (Contains-tail x xs z in') there),
)

-- how many names a hit has if no `**` is left
module _ (c : Content) (o : MatchOptions) (directories : Bool) where
  no_run-cons : (t : Text) (ts : List Text) → list_any is_recursive (t ∷ ts) ≡ false → (is_recursive t ≡ false) ×
      (list_any is_recursive ts ≡ false)
  no_run-cons t ts h = or_parts (is_recursive t) (list_any is_recursive ts) h

  length-nothing : (k : Key) (d : Bool) (names : Key) → Contains (enter_names c o directories [] k d) (Hit names) → length names ≡ 0
  unfolding enter_names
  length-nothing k d names h = ap length (hit-one names [] (hit-cond (not directories || d) (Hit [] ∷ []) (Hit names) h).1)

  length-cons : (t : Text) (ts : List Text) → list_any is_recursive (t ∷ ts) ≡ false
      → ((k : Key) (d : Bool) (names : Key) → Contains (enter_names c o directories ts k d) (Hit names) → length names ≡ length ts)
      → (k : Key) (d : Bool) (names : Key) → Contains (enter_names c o directories (t ∷ ts) k d) (Hit names)
      → length names ≡ length (t ∷ ts)
  length-cons t ts plain next k d names h = by_kind (component_kind t) refl
    where
      longer : (n : Text) (ns : Key) → names ≡ n ∷ ns → length ns ≡ length ts → length names ≡ length (t ∷ ts)
      longer n ns e l = ap length e ∙ ap suc l

      by_found : (ns : Key) (found : Option Kind) → Contains (found_names found (λ e. enter_names c o directories ts
          (k ++ t ∷ []) e)) (Hit ns) → length ns ≡ length ts
      by_found ns None in' = absurd (Contains-nil (Hit ns) in')
      by_found ns (Some kind) in' = next (k ++ t ∷ []) (is_dir kind) ns in'

      by_wild : component_kind t ≡ Wild → (b : Bool) → Contains (enter_names c o directories (t ∷ ts) k b) (Hit names)
          → length names ≡ length (t ∷ ts)
      by_wild kind false g = absurd (Contains-nil (Hit names) (subst (λ fs. Contains fs (Hit names))
          (names-wild_none c o directories t ts k kind) g))
      by_wild kind true g =
          let (e, child', in') = hit-listed c k (λ e. below e.0 (at_entry c o directories t ts k e)) names
          (subst (λ fs. Contains fs (Hit names)) (names-wild c o directories t ts k kind) g) in
          let (ns, same, gives) = hit-below e.0 (at_entry c o directories t ts k e) names in' in
          longer e.0 ns same (next (k ++ e.0 ∷ []) e.1 ns (hit-cond (matches_name o t e.0) (enter_names c o directories
          ts (k ++ e.0 ∷ []) e.1) (Hit ns) gives).1)

      by_kind : (kind : ComponentKind) → component_kind t ≡ kind → length names ≡ length (t ∷ ts)
      by_kind Literal kind =
          let (ns, same, in') = hit-below t (at_name c o directories t ts k) names
          (subst (λ fs. Contains fs (Hit names)) (names-literal c o directories t ts k d kind) h) in
          longer t ns same (by_found ns (kind_at c (k ++ t ∷ [])) in')
      by_kind Recursive kind = absurd (both_ways (is_recursive t) (no_run-cons t ts plain).0 (kind-Recursive t kind))
      by_kind Wild kind = by_wild kind d h

  length-enter : (ts : List Text) → list_any is_recursive ts ≡ false → (k : Key) (d : Bool) (names : Key) → Contains
      (enter_names c o directories ts k d) (Hit names) → length names ≡ length ts
  length-enter [] plain k d names h = length-nothing k d names h
  length-enter (t ∷ ts) plain k d names h = length-cons t ts plain (length-enter ts (no_run-cons t ts plain).1) k d names h

-- a relation of keys that holds under a common first name, and if the first names ascend
pub record IsNameOrder (R : Key → Key → Type 0) : Type 0 where
  pub under : (n : Text) (a b : Key) → R a b → R (n ∷ a) (n ∷ b)
  pub first : (m n : Text) (a b : Key) → slice_cmp nat_cmp m n ≡ Less → R (m ∷ a) (n ∷ b)

-- the names of two hits are related
abbrev pub OfHits : (Key → Key → Type 0) → Find → Find → Type 0
OfHits R f g = (a b : Key) → f ≡ Hit a → g ≡ Hit b → R a b

-- names of this length are related to longer ones
abbrev pub Shorter : (Key → Key → Type 0) → ℕ → Type 0
Shorter R m = (a b : Key) → length a ≡ m → m < length b → R a b

-- The last `**` in each place is followed by no other, and the names that meet what follows it are related to longer
-- ones.
abbrev pub AtRuns : (Key → Key → Type 0) → List Text → Type 0
AtRuns R [] = Unit {0}
AtRuns R (t ∷ ts) = (is_recursive t ≡ true → begins_recursive ts ≡ false → (list_any is_recursive ts ≡ false)
    × Shorter R (length ts - 1)) × AtRuns R ts

module _ (c : Content) (w : IsContent c) (R : Key → Key → Type 0) (order : IsNameOrder R) where
  Pairs-below : (n : Text) (xs : List Find) → Pairs (OfHits R) xs → Pairs (OfHits R) (below n xs)
  Pairs-below n [] p = tt
  Pairs-below n (f ∷ fs) p = (
    λ y in' a b e g. by_find f (p.0) a b e (hit-below n fs b (subst (Contains (below n fs)) g
        in')),
    Pairs-below n fs p.1,
  )
    where
      by_find : (x : Find) → ((y : Find) → Contains fs y → (OfHits R) x y) → (a b : Key) → deepen n x ≡ Hit a →
          (bs : Key) × (b ≡ n ∷ bs) × Contains fs (Hit bs) → R a b
      by_find (Hit ns) here a b e (bs, same, in') =
          let left : n ∷ ns ≡ a = cc in
          subst (λ x. R x b) left (subst (R (n ∷ ns)) (sym same) (order.under n ns bs (here (Hit bs) in' ns bs refl refl)))
      by_find (Miss ns kind) here a b e found = absurd (cc)

  Pairs-cond : (b : Bool) (xs : List Find) → Pairs (OfHits R) xs → Pairs (OfHits R) (cond b xs [])
  Pairs-cond true xs p = p
  Pairs-cond false xs p = tt

  Pairs-flat : (each : DirEntry → List Find) (es : List DirEntry) → IsRising es → ((e : DirEntry) → Pairs (OfHits R)
      (below e.0 (each e))) → Pairs (OfHits R) (flat_map (λ e. below e.0 (each e)) es)
  Pairs-flat each [] rising inner = tt
  Pairs-flat each (e ∷ es) rising inner = Pairs-append (OfHits R) (below e.0 (each e))
      (flat_map (λ e. below e.0 (each e)) es) (inner e) (Pairs-flat each es rising.1 inner)
      (λ x y here there a b g h.
      let (ns, left, _) = hit-below e.0 (each e) a (subst (Contains (below e.0 (each e))) g here) in
      let (f, in', gives) = Contains-flat_map (λ e. below e.0 (each e)) es y there in
      let (bs, right, _) = hit-below f.0 (each f) b (subst (Contains (below f.0 (each f))) h gives) in
      subst (λ z. R z b) (sym left) (subst (R (e.0 ∷ ns)) (sym right) (order.first e.0 f.0 ns bs (rising.0 f in'))))

  Pairs-listed : (k : Key) (each : DirEntry → List Find) → ((e : DirEntry) → Pairs (OfHits R) (each e)) → Pairs
      (OfHits R) (list_names c k (λ e. below e.0 (each e)))
  Pairs-listed k each inner = by_kind (kind_at c k)
    where
      by_kind : (found : Option Kind) → Pairs (OfHits R) (list_kind c k found (λ e. below e.0 (each e)))
      by_kind None = tt
      by_kind (Some Dir) = Pairs-flat each (sorted_entries (children c k)) (IsRising-sorted_entries (children c k)
          (children_apart c w k)) (λ e. Pairs-below e.0 (each e) (inner e))
      by_kind (Some (Shut kind)) = ((λ y in'. absurd (Contains-nil y in')), tt)
      by_kind (Some Other) = tt

  module _ (o : MatchOptions) (directories : Bool) where
    Pairs-one : (b : Bool) → Pairs (OfHits R) (cond b (Hit [] ∷ []) [])
    Pairs-one true = ((λ y in'. absurd (Contains-nil y in')), tt)
    Pairs-one false = tt

    length-meet : (ts : List Text) → list_any is_recursive ts ≡ false → (k : Key) (name : Text) (d : Bool)
        (names : Key) → Contains (meet_names c o directories ts k name d) (Hit names) → length names ≡ length ts - 1
    unfolding meet_names
    length-meet [] plain k name d names h = ap length (hit-one names [] (hit-cond (is_entered o name d) (Hit [] ∷ [])
        (Hit names) h).1) ∙ omega arith
    length-meet (t ∷ ts) plain k name d names h =
        let l = length-enter c o directories ts (no_run-cons c o directories t ts plain).1 k d names
        (hit-cond (matches_name o t name) (enter_names c o directories ts k d) (Hit names) h).1 in omega arith

    length-descent : (ts : List Text) → list_any is_recursive ts ≡ false → (n : ℕ) (k names : Key) → Contains
        (descent_names c o (meet_names c o directories ts) n k) (Hit names) → length ts - 1 < length names
    unfolding descent_names
    length-descent ts plain zero k names h = absurd (Contains-nil (Hit names) h)
    length-descent ts plain (suc n) k names h =
        let (e, child', in') = hit-listed c k (λ e. below e.0 (run_entry c o directories ts n k e)) names h in
        let (ns, same, gives) = hit-below e.0 (run_entry c o directories ts n k e) names in' in
        let l : length names ≡ suc (length ns) = ap length same in
        ⊎_elim
        (λ here. let m = length-meet ts plain (k ++ e.0 ∷ []) e.0 e.1 ns here in omega arith)
        (λ later. let m = length-descent ts plain n (k ++ e.0 ∷ []) ns (hit-cond (is_entered o e.0 e.1)
        (descent_names c o (meet_names c o directories ts) n (k ++ e.0 ∷ [])) (Hit ns) later).1 in omega arith)
        (Contains-append_cases (meet_names c o directories ts (k ++ e.0 ∷ []) e.0 e.1) (past_entry c o directories ts n k e) (Hit ns) gives)

    abbrev Ordered : List Text → Type 0
    Ordered ts = (k : Key) (d : Bool) → Pairs (OfHits R) (enter_names c o directories ts k d)

    pairs-nothing : Ordered []
    unfolding enter_names
    pairs-nothing k d = Pairs-one (not directories || d)

    pairs-literal : (t : Text) (ts : List Text) → component_kind t ≡ Literal → Ordered ts → Ordered (t ∷ ts)
    pairs-literal t ts kind next k d =
        subst (Pairs (OfHits R)) (sym (names-literal c o directories t ts k d kind))
        (Pairs-below t (at_name c o directories t ts k) (by_kind (kind_at c (k ++ t ∷ []))))
      where
        by_kind : (found : Option Kind) → Pairs (OfHits R) (found_names found (λ e. enter_names c o directories ts (k ++ t ∷ []) e))
        by_kind None = tt
        by_kind (Some kind) = next (k ++ t ∷ []) (is_dir kind)

    pairs-wild : (t : Text) (ts : List Text) → component_kind t ≡ Wild → Ordered ts → Ordered (t ∷ ts)
    pairs-wild t ts kind next k false = subst (Pairs (OfHits R)) (sym (names-wild_none c o directories t ts k kind)) tt
    pairs-wild t ts kind next k true =
        subst (Pairs (OfHits R)) (sym (names-wild c o directories t ts k kind))
        (Pairs-listed k (λ e. at_entry c o directories t ts k e)
        (λ e. Pairs-cond (matches_name o t e.0) (enter_names c o directories ts (k ++ e.0 ∷ []) e.1) (next (k ++ e.0 ∷ []) e.1)))

    pairs-met : (ts : List Text) → ((u : Text) (us : List Text) → ts ≡ u ∷ us → Ordered us) → (k : Key) (name : Text)
        (d : Bool) → Pairs (OfHits R) (meet_names c o directories ts k name d)
    unfolding meet_names
    pairs-met [] next k name d = Pairs-one (is_entered o name d)
    pairs-met (u ∷ us) next k name d = Pairs-cond (matches_name o u name) (enter_names c o directories us k d) (next u us refl k d)

    pairs-descent : (ts : List Text) → list_any is_recursive ts ≡ false → Shorter R (length ts - 1) →
        ((k : Key) (name : Text) (d : Bool) → Pairs (OfHits R) (meet_names c o directories ts k name d))
        → (n : ℕ) (k : Key) → Pairs (OfHits R) (descent_names c o (meet_names c o directories ts) n k)
    unfolding descent_names
    pairs-descent ts plain shorter met zero k = tt
    pairs-descent ts plain shorter met (suc n) k = Pairs-listed k
        (λ e. run_entry c o directories ts n k e)
        (λ e.
        let here : List Find = meet_names c o directories ts (k ++ e.0 ∷ []) e.0 e.1 in
        let deep : List Find = descent_names c o (meet_names c o directories ts) n (k ++ e.0 ∷ []) in
        Pairs-append (OfHits R) here (cond (is_entered o e.0 e.1) deep []) (met (k ++ e.0 ∷ []) e.0 e.1)
        (Pairs-cond (is_entered o e.0 e.1) deep (pairs-descent ts plain shorter met n (k ++ e.0 ∷ [])))
        (λ x y left right a b g h. shorter a b
        (length-meet ts plain (k ++ e.0 ∷ []) e.0 e.1 a (subst (Contains here) g left))
        (length-descent ts plain n (k ++ e.0 ∷ []) b (hit-cond (is_entered o e.0 e.1) deep (Hit b)
        (subst (Contains (cond (is_entered o e.0 e.1) deep [])) h right)).1)))

    pairs-recursive : (t : Text) (ts : List Text) → component_kind t ≡ Recursive → (is_recursive t ≡ true
        → begins_recursive ts ≡ false → (list_any is_recursive ts ≡ false) × Shorter R (length ts - 1))
        → Ordered ts → ((u : Text) (us : List Text) → ts ≡ u ∷ us → Ordered us) → (b : Bool) → begins_recursive ts ≡ b → Ordered (t ∷ ts)
    pairs-recursive t ts kind at next after true more k d = subst (Pairs (OfHits R))
        (sym (names-run c o directories t ts k d kind more)) (next k d)
    pairs-recursive t ts kind at next after false last k false = subst (Pairs (OfHits R))
        (sym (names-recursive_none c o directories t ts k kind last)) tt
    pairs-recursive t ts kind at next after false last k true =
        let (plain, shorter) = at (kind-Recursive t kind) last in
        subst (Pairs (OfHits R)) (sym (names-levels c o directories t ts k kind last)) (pairs-descent ts plain shorter
        (pairs-met ts after) (levels c) k)

    record BothOrdered (ts : List Text) : Type 0 where
      entered : Ordered ts
      after : (u : Text) (us : List Text) → ts ≡ u ∷ us → Ordered us

    both_ordered : (ts : List Text) → AtRuns R ts → BothOrdered ts
    both_ordered [] at = record { entered = pairs-nothing; after = λ u us e. absurd (cc) }
    both_ordered (t ∷ ts) at =
        let next = both_ordered ts at.1 in
        record { entered = by_kind next (component_kind t) refl; after = λ u us e. subst Ordered (ap (drop 1) e) next.entered }
      where
        by_kind : BothOrdered ts → (kind : ComponentKind) → component_kind t ≡ kind → Ordered (t ∷ ts)
        by_kind next Literal kind = pairs-literal t ts kind next.entered
        by_kind next Recursive kind = pairs-recursive t ts kind at.0 next.entered next.after (begins_recursive ts) refl
        by_kind next Wild kind = pairs-wild t ts kind next.entered

    -- the names that are found, each related to the names after it
    pub ordered_finds : (ts : List Text) → AtRuns R ts → (k : Key) (d : Bool) → Pairs (OfHits R) (enter_names c o directories ts k d)
    ordered_finds ts at = (both_ordered ts at).entered
