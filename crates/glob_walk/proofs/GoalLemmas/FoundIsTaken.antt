-- The names found at a key are the names of keys below it that the components take.
use Rattle.std.proofs.Common.{◌≡◌, ℕ, zero, suc, ◌⊎◌, inl, inr, Bool, true, false, not, ◌||◌, List, [], ◌∷◌, ◌++◌}
use Rattle.std.proofs.Common.{Option, Some, None, refl, sym, ap, subst, ◌∙◌}
use Rattle.std.specs.Prelude.{Contains}
use Rattle.std.proofs.lemmas.Bool.{false≢true, and_parts, and_from, or_left}
use Rattle.std.proofs.lemmas.List.{append-nil}
use Rattle.std.proofs.lemmas.Slice.Eq.{bytes_eq-Decides}
use Rattle.std.proofs.lemmas.List.Elements.{Contains-append_cases}
use Rattle.glob_text.specs.Text.{Text}
use Rattle.glob_tree.specs.Content.{Content, Key, DirEntry, kind_at, is_dir, children}
use Rattle.glob_walk.specs.Components.{Literal, Recursive, Wild, component_kind, ComponentKind, begins_recursive}
use Rattle.glob_walk.specs.Components.{is_recursive, is_literal, matches_name}
use Rattle.glob_walk.specs.Walks.{is_entered, levels}
use Rattle.glob_walk.specs.Goal.{ends_recursive, walk_takes, walk_takes_name}
use Rattle.glob_pattern.specs.declared.options.MatchOptions.{MatchOptions}
use Rattle.glob_tree.specs.declared.kind.Kind.{Kind}
use Rattle.glob_tree.proofs.ContentLemmas.Membership.{Contains-nil}
use Rattle.glob_tree.proofs.ContentLemmas.Contents.{IsContent}
use Rattle.glob_walk.proofs.GoalLemmas.KeysBelow.{Here, Here-entry, held-deeper}
use Rattle.glob_walk.proofs.GoalLemmas.FoundParts.{hit-below, hit-cond, hit-one, hit-listed}
use Rattle.glob_walk.proofs.GoalLemmas.TakenNames.{takes-one, MetBy, run-met, run-enter, run-from_first_recursive}
use Rattle.glob_pattern.specs.Matching.Components.{is_open}
use Rattle.glob_walk.proofs.GoalLemmas.Finds.{at_entry, at_name, past_entry, run_entry, Hit, below, found_names}
use Rattle.glob_walk.proofs.GoalLemmas.Finds.{descent_names, enter_names, meet_names}
use Rattle.glob_walk.proofs.ListingLemmas.ComponentKinds.{kind-Literal, kind-Recursive, kind-Wild, literal_not_recursive}
use Rattle.glob_walk.proofs.GoalLemmas.ListingFinds.{names-literal, names-wild, names-wild_none, names-run}
use Rattle.glob_walk.proofs.GoalLemmas.ListingFinds.{names-recursive_none, names-levels}

-- the kind that the components want
abbrev pub allows : (directories : Bool) → List Text → Kind → Bool
allows directories ts kind = is_dir kind || not (directories || ends_recursive ts)

-- the components take the names of a key below k
pub record IsTakenAt (c : Content) (o : MatchOptions) (directories : Bool) (ts : List Text) (k names : Key) : Type 0 where
  pub kind : Kind
  pub held : kind_at c (k ++ names) ≡ Some kind
  pub taken : walk_takes o false ts names ≡ true
  pub allowed : allows directories ts kind ≡ true

pub record IsMet (c : Content) (o : MatchOptions) (directories : Bool) (t : Text) (ts : List Text) (k : Key)
    (name : Text) (names : Key) : Type 0 where
  pub kind : Kind
  pub held : kind_at c (k ++ names) ≡ Some kind
  pub met : MetBy o ts name names
  pub allowed : allows directories (t ∷ ts) kind ≡ true

-- a literal component takes its own name, and a component with wildcards takes what it matches
literal_takes : (o : MatchOptions) (t : Text) → is_literal t ≡ true → walk_takes_name o false t t ≡ true
literal_takes o t literal = rw literal ((bytes_eq-Decides t t).1 refl)

pub wild_takes : (o : MatchOptions) (t n : Text) → is_literal t ≡ false → walk_takes_name o false t n ≡ matches_name o t n
wild_takes o t n wild = rw wild refl

pub ends-cons : (t : Text) (ts : List Text) → is_recursive t ≡ false → ends_recursive (t ∷ ts) ≡ ends_recursive ts
ends-cons t [] e = e
ends-cons t (u ∷ us) e = refl

module _ (c : Content) (w : IsContent c) (o : MatchOptions) (directories : Bool) where
  -- what is found with these components left is taken by them
  abbrev Entered : List Text → Type 0
  Entered ts = (k : Key) (d : Bool) → Here c k d → (names : Key) → Contains (enter_names c o directories ts k d)
      (Hit names) → IsTakenAt c o directories ts k names

  -- the same for what is found at an entry that is met under `**`
  abbrev Met : Text → List Text → Type 0
  Met t ts = (k : Key) (name : Text) (d : Bool) → Here c k d → (names : Key) → Contains (meet_names c o directories ts
      k name d) (Hit names) → IsMet c o directories t ts k name names

  record EachTaken (ts : List Text) : Type 0 where
    entered : Entered ts
    met : begins_recursive ts ≡ false → (t : Text) → is_recursive t ≡ true → Met t ts

  taken-nothing : Entered []
  unfolding enter_names
  taken-nothing k d at names h =
      let (test, in') = hit-cond (not directories || d) (Hit [] ∷ []) (Hit names) h in
      let e : names ≡ [] = hit-one names [] in' in
      record {
        kind = at.kind;
        held = ap (kind_at c) (ap (λ ns. k ++ ns) e ∙ append-nil k) ∙ at.held;
        taken = ap (walk_takes o false []) e;
        allowed = by_tests directories d (is_dir at.kind) at.is test;
      }
    where
      by_tests : (b d x : Bool) → x ≡ d → (not b || d) ≡ true → (x || not (b || false)) ≡ true
      by_tests true true x e h = rw e refl
      by_tests true false x e h = absurd (false≢true h)
      by_tests false d true e h = refl
      by_tests false d false e h = refl

  taken-met_nothing : (t : Text) → is_recursive t ≡ true → Met t []
  unfolding meet_names
  taken-met_nothing t r k name d at names h =
      let (test, in') = hit-cond (is_entered o name d) (Hit [] ∷ []) (Hit names) h in
      let e : names ≡ [] = hit-one names [] in' in
      let both = and_parts d (is_open o name) test in
      record {
        kind = at.kind;
        held = ap (kind_at c) (ap (λ ns. k ++ ns) e ∙ append-nil k) ∙ at.held;
        met = (e, both.1);
        allowed = or_left (is_dir at.kind) _ (at.is ∙ both.0);
      }

  taken-met : (u : Text) (us : List Text) → is_recursive u ≡ false → Entered us → (t : Text) → Met t (u ∷ us)
  unfolding meet_names
  taken-met u us plain next t k name d at names h =
      let (test, in') = hit-cond (matches_name o u name) (enter_names c o directories us k d) (Hit names) h in
      let hit = next k d at names in' in
      record {
        kind = hit.kind;
        held = hit.held;
        met = takes-one o true u us name names plain ∙ and_from (matches_name o u name) (walk_takes o false us names) test hit.taken;
        allowed = ap (λ x. is_dir hit.kind || not (directories || x)) (ends-cons u us plain) ∙ hit.allowed;
      }

  -- a hit with one more name in front
  hit-deeper : (t : Text) (ts : List Text) (k : Key) (n : Text) (ns names : Key) → is_recursive t ≡ false
      → walk_takes_name o false t n ≡ true → names ≡ n ∷ ns → IsTakenAt c o directories ts (k ++ n ∷ []) ns
      → IsTakenAt c o directories (t ∷ ts) k names
  hit-deeper t ts k n ns names plain m e hit = subst (IsTakenAt c o directories (t ∷ ts) k) (sym e) (record {
    kind = hit.kind;
    held = held-deeper c k n ns (Some hit.kind) hit.held;
    taken = takes-one o false t ts n ns plain ∙ and_from (walk_takes_name o false t n) (walk_takes o false ts ns) m hit.taken;
    allowed = ap (λ x. is_dir hit.kind || not (directories || x)) (ends-cons t ts plain) ∙ hit.allowed;
  })

  taken-literal : (t : Text) (ts : List Text) → component_kind t ≡ Literal → Entered ts → Entered (t ∷ ts)
  taken-literal t ts kind next k d at names h =
      let literal = kind-Literal t kind in
      let (ns, e, in') = hit-below t (at_name c o directories t ts k) names (subst (λ fs. Contains fs (Hit names))
      (names-literal c o directories t ts k d kind) h) in
      hit-deeper t ts k t ns names (literal_not_recursive t literal) (literal_takes o t literal) e
      (by_kind ns (kind_at c (k ++ t ∷ [])) refl in')
    where
      by_kind : (ns : Key) (found : Option Kind) → kind_at c (k ++ t ∷ []) ≡ found → Contains (found_names found
          (λ x. enter_names c o directories ts (k ++ t ∷ []) x)) (Hit ns) → IsTakenAt c o directories ts
          (k ++ t ∷ []) ns
      by_kind ns None e in' = absurd (Contains-nil (Hit ns) in')
      by_kind ns (Some kind) e in' = next (k ++ t ∷ []) (is_dir kind) (record { kind = kind; held = e; is = refl }) ns in'

  taken-wild : (t : Text) (ts : List Text) → component_kind t ≡ Wild → Entered ts → Entered (t ∷ ts)
  taken-wild t ts kind next k false at names h = absurd (Contains-nil (Hit names)
      (subst (λ fs. Contains fs (Hit names)) (names-wild_none c o directories t ts k kind) h))
  taken-wild t ts kind next k true at names h =
      let (e, child', in') = hit-listed c k (λ e. below e.0 (at_entry c o directories t ts k e)) names
      (subst (λ fs. Contains fs (Hit names)) (names-wild c o directories t ts k kind) h) in
      let (ns, same, gives) = hit-below e.0 (at_entry c o directories t ts k e) names in' in
      let (m, found) = hit-cond (matches_name o t e.0) (enter_names c o directories ts (k ++ e.0 ∷ []) e.1) (Hit ns) gives in
      hit-deeper t ts k e.0 ns names (kind-Wild t kind).1 (wild_takes o t e.0 (kind-Wild t kind).0 ∙ m) same
      (next (k ++ e.0 ∷ []) e.1 (Here-entry c w k e child') ns found)

  taken-descent : (t : Text) (ts : List Text) → is_recursive t ≡ true → Met t ts
      → (n : ℕ) (k names : Key) → Contains (descent_names c o (meet_names c o directories ts) n k) (Hit names)
      → IsTakenAt c o directories (t ∷ ts) k names
  unfolding descent_names
  taken-descent t ts r next zero k names h = absurd (Contains-nil (Hit names) h)
  taken-descent t ts r next (suc n) k names h =
      let (e, child', in') = hit-listed c k (λ e. below e.0 (run_entry c o directories ts n k e)) names h in
      let (ns, same, gives) = hit-below e.0 (run_entry c o directories ts n k e) names in' in
      subst (IsTakenAt c o directories (t ∷ ts) k) (sym same) (by_place e ns child'
      (λ entered deep. from_below e ns (and_parts e.1 (is_open o e.0) entered).1 (taken-descent t ts r next n (k ++ e.0 ∷ []) ns deep))
      (Contains-append_cases (meet_names c o directories ts (k ++ e.0 ∷ []) e.0 e.1) (past_entry c o directories ts n k e) (Hit ns) gives))
    where
      from_met : (e : DirEntry) (ns : Key) → IsMet c o directories t ts (k ++ e.0 ∷ []) e.0 ns → IsTakenAt c o
          directories (t ∷ ts) k (e.0 ∷ ns)
      from_met e ns is = record {
        kind = is.kind;
        held = held-deeper c k e.0 ns (Some is.kind) is.held;
        taken = run-met
            o false t ts e.0 ns r is.met;
        allowed = is.allowed;
      }

      from_below : (e : DirEntry) (ns : Key) → is_open o e.0 ≡ true → IsTakenAt c o directories (t ∷ ts)
          (k ++ e.0 ∷ []) ns → IsTakenAt c o directories (t ∷ ts) k (e.0 ∷ ns)
      from_below e ns open' is = record {
        kind = is.kind;
        held = held-deeper c k e.0 ns (Some is.kind) is.held;
        taken =
            run-enter o false t ts e.0 ns r open' is.taken;
        allowed = is.allowed;
      }

      by_place : (e : DirEntry) (ns : Key) → Contains (children c k) e
          → (is_entered o e.0 e.1 ≡ true → Contains (descent_names c o (meet_names c o directories ts) n
          (k ++ e.0 ∷ [])) (Hit ns) → IsTakenAt c o directories (t ∷ ts) k (e.0 ∷ ns))
          → Contains (meet_names c o directories ts (k ++ e.0 ∷ []) e.0 e.1) (Hit ns) ⊎ Contains
          (past_entry c o directories ts n k e) (Hit ns)
          → IsTakenAt c o directories (t ∷ ts) k (e.0 ∷ ns)
      by_place e ns child' deeper (inl here) = from_met e ns (next (k ++ e.0 ∷ []) e.0 e.1 (Here-entry c w k e child') ns here)
      by_place e ns child' deeper (inr later) =
          let (entered, deep) = hit-cond (is_entered o e.0 e.1) (descent_names c o (meet_names c o directories ts) n
          (k ++ e.0 ∷ [])) (Hit ns) later in
          deeper entered deep

  taken-run : (t : Text) (ts : List Text) → is_recursive t ≡ true → begins_recursive ts ≡ true → (k names : Key)
      → IsTakenAt c o directories ts k names → IsTakenAt c o directories (t ∷ ts) k names
  taken-run t [] r more k names is = absurd (false≢true more)
  taken-run t (u ∷ us) r more k names is = record {
    kind = is.kind;
    held = is.held;
    taken = run-from_first_recursive o
        false t u us names r more is.taken;
    allowed = is.allowed;
  }

  taken-recursive : (t : Text) (ts : List Text) → component_kind t ≡ Recursive → EachTaken ts → (b : Bool)
      → begins_recursive ts ≡ b → Entered (t ∷ ts)
  taken-recursive t ts kind next true more k d at names h =
      taken-run t ts (kind-Recursive t kind) more k names (next.entered k d at names
      (subst (λ fs. Contains fs (Hit names)) (names-run c o directories t ts k d kind more) h))
  taken-recursive t ts kind next false last k false at names h = absurd (Contains-nil (Hit names)
      (subst (λ fs. Contains fs (Hit names)) (names-recursive_none c o directories t ts k kind last) h))
  taken-recursive t ts kind next false last k true at names h =
      taken-descent t ts (kind-Recursive t kind) (next.met last t (kind-Recursive t kind)) (levels c) k names
      (subst (λ fs. Contains fs (Hit names)) (names-levels c o directories t ts k kind last) h)

  each_is_taken : (ts : List Text) → EachTaken ts
  each_is_taken [] = record { entered = taken-nothing; met = λ last t r. taken-met_nothing t r }
  each_is_taken (t ∷ ts) =
      let next = each_is_taken ts in
      record { entered = by_kind next (component_kind t) refl; met = λ plain u r. taken-met t ts plain next.entered u }
    where
      by_kind : EachTaken ts → (kind : ComponentKind) → component_kind t ≡ kind → Entered (t ∷ ts)
      by_kind next Literal kind = taken-literal t ts kind next.entered
      by_kind next Recursive kind = taken-recursive t ts kind next (begins_recursive ts) refl
      by_kind next Wild kind = taken-wild t ts kind next.entered

  -- each hit is a key whose names the components take
  pub hits_are_taken : (ts : List Text) → Entered ts
  hits_are_taken ts = (each_is_taken ts).entered
