-- The paths of the written listing are the paths of the names that it finds.
use Rattle.std.proofs.Common.{◌≡◌, ℕ, zero, suc, ◌<◌, Bool, true, false, cond, not, ◌&&◌, ◌||◌, List, [], ◌∷◌, ◌++◌}
use Rattle.std.proofs.Common.{length, map, flat_map, replicate, Option, Some, None, refl, sym, ap, ap₂, subst, ◌∙◌}
use Rattle.std.proofs.Common.{arith}
use Rattle.std.specs.Prelude.{Contains, bytes_eq}
use Rattle.std.specs.List.{list_all}
use Rattle.std.specs.Path.{has_no_slash, cur_dir, parent_dir}
use Rattle.std.proofs.lemmas.Bool.{false≢true, true≢false, both_ways, and_parts, and_from, or_parts, not-true}
use Rattle.std.proofs.lemmas.List.{map-append}
use Rattle.glob_text.specs.Text.{Text}
use Rattle.glob_text.specs.Characters.{dot}
use Rattle.glob_text.specs.Pieces.{is_empty, begins_with}
use Rattle.glob_tree.specs.Paths.{stays, child}
use Rattle.glob_tree.specs.Content.{Content, Key, DirEntry, kind_at, is_dir, is_dir_at, children, sorted_entries}
use Rattle.glob_tree.specs.Content.{resolve, look_result, look_of, list_result, kind_found, step}
use Rattle.glob_walk.specs.Walks.{Mark, Work, Give, Found, items, Next, by_name, match_at, special_names}
use Rattle.glob_walk.specs.Walks.{after_listing, list_directory, is_entered, descent, levels, enter, meet}
use Rattle.glob_walk.specs.Components.{Literal, Recursive, Wild, component_kind, ComponentKind, begins_recursive}
use Rattle.glob_walk.specs.Components.{is_recursive, is_literal, is_current_or_parent, matches_name}
use Rattle.glob_walk.specs.Goal.{is_plain_component, are_plain}
use Rattle.glob_pattern.specs.declared.options.MatchOptions.{MatchOptions}
use Rattle.glob_tree.specs.declared.kind.Kind.{Kind}
use Rattle.glob_tree.proofs.ContentLemmas.Membership.{Contains-head, Contains-tail}
use Rattle.glob_tree.proofs.ContentLemmas.Contents.{IsContent, IsChild-list_result}
use Rattle.glob_tree.proofs.ContentLemmas.Directories.{LeadsTo, ListsAs, Read, Unreadable, ListsAs-from_leads}
use Rattle.glob_tree.proofs.ContentLemmas.Directories.{resolve_listed, is_dir_at-kind}
use Rattle.glob_tree.proofs.ContentLemmas.Resolving.{resolve_child}
use Rattle.glob_tree.proofs.ContentLemmas.Sorting.{Contains-sorted_entries}
use Rattle.glob_walk.proofs.ListingLemmas.Marks.{items-append, items-replicate}
use Rattle.glob_walk.proofs.ListingLemmas.ComponentKinds.{recursive_is, kind-Literal, kind-Recursive, kind-Wild, literal_not_recursive}
use Rattle.glob_walk.proofs.ListingLemmas.Descending.{enter-literal, enter-wild, enter_none, enter-run}
use Rattle.glob_walk.proofs.ListingLemmas.Descending.{enter-recursive_none, enter-levels, is_entered-directory}
use Rattle.glob_walk.proofs.GoalLemmas.KeysBelow.{held_above}
use Rattle.glob_walk.proofs.GoalLemmas.Finds.{at_entry, at_name, Find, Hit, Miss, deepen, item_under, below, list_kind}
use Rattle.glob_walk.proofs.GoalLemmas.Finds.{list_names, descent_names, enter_names, meet_names}

given-works : (n : ℕ) (path : Text) (before ms : List Mark) → items (replicate n (Work path) ++ before ++ ms) ≡ items before ++ items ms
given-works n path before ms =
    items-append (replicate n (Work path) ++ before) ms
    ∙ ap (λ ps. ps ++ items ms) (items-append (replicate n (Work path)) before ∙ ap (λ is. is ++ items before) (items-replicate n path))

-- the path leads to the key; d says whether it is a directory
pub record Leads (c : Content) (path : Text) (k : Key) (d : Bool) : Type 0 where
  pub resolved : resolve c path ≡ Some k
  pub is : is_dir_at c k ≡ d

under-below : (path : Text) (n : Text) (keys : List Find) → map (item_under path) (below n keys) ≡ map (item_under (child path n)) keys
under-below path n [] = refl
under-below path n (k ∷ ks) = ap₂ (λ x xs. x ∷ xs) (one k) (under-below path n ks)
  where
    one : (k : Find) → item_under path (deepen n k) ≡ item_under (child path n) k
    one (Hit ns) = refl
    one (Miss ns kind) = refl

-- one entry after another
given-entries : (path : Text) (each : Next) (names : DirEntry → List Find) (es : List DirEntry) → ((e : DirEntry)
    → Contains es e → items (each e.0 e.1) ≡ map (item_under path) (names e))
    → items (flat_map (λ e. each e.0 e.1) es) ≡ map (item_under path) (flat_map names es)
given-entries path each names [] same = refl
given-entries path each names (e ∷ es) same =
    items-append (each e.0 e.1) (flat_map (λ x. each x.0 x.1) es)
    ∙ ap₂ (λ x y. x ++ y) (same e (Contains-head e es)) (given-entries path each names es (λ x in'. same x (Contains-tail e es x in')))
    ∙ sym (map-append (item_under path) (names e) (flat_map names es))

given-listed : (c : Content) (path : Text) (k : Key) → LeadsTo c path k → (each : Next) (names : DirEntry → List Find)
    → ((e : DirEntry) → Contains (children c k) e → items (each e.0 e.1) ≡ map (item_under path) (names e))
    → items (list_directory c path [] each) ≡ map (item_under path) (list_names c k names)
given-listed c path k at each names same = by_answer (ListsAs-from_leads c path k at)
  where
    by_answer : ListsAs c path k → items (after_listing path [] each (list_result c path)) ≡ map (item_under path)
        (list_kind c k (kind_at c k) names)
    by_answer (Read held answer) = rw (answer, held)
        (given-works (length (children c k)) path [] (flat_map (λ e. each e.0 e.1) (sorted_entries (children c k)))
        ∙ given-entries path each names (sorted_entries (children c k)) (λ e in'. same e (Contains-sorted_entries (children c k) e in')))
    by_answer (Unreadable kind held answer) = rw (answer, held) refl

-- an entry's path leads to its key
pub Leads-entry : (c : Content) → IsContent c → (path : Text) (k : Key) → LeadsTo c path k → (e : DirEntry) → Contains
    (children c k) e → Leads c (child path e.0) (k ++ e.0 ∷ []) e.1
Leads-entry c w path k at e in' =
    let is = IsChild-list_result c w k e in' in
    record { resolved = resolve_listed c w path k at e in'; is = is_dir_at-kind c (k ++ e.0 ∷ []) is.kind is.held ∙ is.is_same }

-- what follows at a path is what is found at its key
abbrev Same : Content → (Text → Bool → List Mark) → (Key → Bool → List Find) → Type 0
Same c marks keys = (path : Text) (k : Key) (d : Bool) → Leads c path k d → items (marks path d) ≡ map (item_under path) (keys k d)

abbrev SameMet : Content → (Text → Text → Bool → List Mark) → (Key → Text → Bool → List Find) → Type 0
SameMet c marks keys = (path : Text) (k : Key) (name : Text) (d : Bool) → Leads c path k d → items (marks path name d)
    ≡ map (item_under path) (keys k name d)

given-cond : (b : Bool) (path : Text) (ms : List Mark) (keys : List Find) → (b ≡ true → items ms ≡ map
    (item_under path) keys) → items (cond b ms []) ≡ map (item_under path) (cond b keys [])
given-cond true path ms keys same = same refl
given-cond false path ms keys same = refl

given-descent : (c : Content) → IsContent c → (o : MatchOptions) (each : Text → Text → Bool → List Mark)
    (names : Key → Text → Bool → List Find) → SameMet c each names → (n : ℕ) (path : Text) (k : Key) → LeadsTo c path k
    → items (descent c o each n path) ≡ map (item_under path) (descent_names c o names n k)
unfolding descent descent_names
given-descent c w o each names same zero path k at = refl
given-descent c w o each names same (suc n) path k at = given-listed c path k at
    (λ name d. each (child path name) name d ++ (cond (is_entered o name d) (descent c o each n (child path name)) []))
    (λ e. below e.0 (names (k ++ e.0 ∷ []) e.0 e.1 ++ (cond (is_entered o e.0 e.1) (descent_names c o names n (k ++ e.0 ∷ [])) [])))
    (λ e in'.
    let leads = Leads-entry c w path k at e in' in
    items-append (each (child path e.0) e.0 e.1) (cond (is_entered o e.0 e.1) (descent c o each n (child path e.0)) [])
    ∙ ap₂ (λ x y. x ++ y) (same (child path e.0) (k ++ e.0 ∷ []) e.0 e.1 leads)
    (given-cond (is_entered o e.0 e.1) (child path e.0) (descent c o each n (child path e.0)) (descent_names c o names n (k ++ e.0 ∷ []))
    (λ entered. given-descent c w o each names same n (child path e.0) (k ++ e.0 ∷ [])
    (record { resolved = leads.resolved; directory = leads.is ∙ is_entered-directory o e.0 e.1 entered })))
    ∙ sym (map-append (item_under (child path e.0)) (names (k ++ e.0 ∷ []) e.0 e.1) (cond (is_entered o e.0 e.1)
    (descent_names c o names n (k ++ e.0 ∷ [])) []))
    ∙ sym (under-below path e.0 (names (k ++ e.0 ∷ []) e.0 e.1 ++ (cond (is_entered o e.0 e.1)
    (descent_names c o names n (k ++ e.0 ∷ [])) []))))

module _ (c : Content) (o : MatchOptions) (directories : Bool) where
  pub names-literal : (t : Text) (ts : List Text) (k : Key) (d : Bool) → component_kind t ≡ Literal
      → enter_names c o directories (t ∷ ts) k d ≡ below t (at_name c o directories t ts k)
  unfolding enter_names
  names-literal t ts k d kind = rw (kind, enter_names) refl

  pub names-wild : (t : Text) (ts : List Text) (k : Key) → component_kind t ≡ Wild
      → enter_names c o directories (t ∷ ts) k true ≡ list_names c k (λ e. below e.0 (at_entry c o directories t ts k e))
  unfolding enter_names
  names-wild t ts k kind = rw (kind, enter_names) refl

  pub names-wild_none : (t : Text) (ts : List Text) (k : Key) → component_kind t ≡ Wild → enter_names c o directories (t ∷ ts) k false ≡ []
  unfolding enter_names
  names-wild_none t ts k kind = rw (kind, enter_names) refl

  pub names-run : (t : Text) (ts : List Text) (k : Key) (d : Bool) → component_kind t ≡ Recursive → begins_recursive ts ≡ true
      → enter_names c o directories (t ∷ ts) k d ≡ enter_names c o directories ts k d
  unfolding enter_names
  names-run t ts k d kind more = rw (kind, more, enter_names) refl

  pub names-recursive_none : (t : Text) (ts : List Text) (k : Key) → component_kind t ≡ Recursive → begins_recursive ts ≡ false
      → enter_names c o directories (t ∷ ts) k false ≡ []
  unfolding enter_names
  names-recursive_none t ts k kind last = rw (kind, last, enter_names) refl

  pub names-levels : (t : Text) (ts : List Text) (k : Key) → component_kind t ≡ Recursive → begins_recursive ts ≡ false
      → enter_names c o directories (t ∷ ts) k true ≡ descent_names c o (meet_names c o directories ts) (levels c) k
  unfolding enter_names
  names-levels t ts k kind last = rw (kind, last, enter_names) refl

-- a literal component of a plain pattern
pub record IsOwnName (t : Text) : Type 0 where
  pub some : 0 < length t
  pub plain : has_no_slash t ≡ true
  pub leads : stays t ≡ false
  pub down : bytes_eq t parent_dir ≡ false
  pub special : is_current_or_parent t ≡ false

pub own_name : (after : Bool) (t : Text) → is_plain_component after t ≡ true → has_no_slash t ≡ true → IsOwnName t
own_name after t h plain =
    let outer = and_parts (not (is_empty t) && not (is_current_or_parent t)) (is_literal t || not (begins_with dot t) || after) h in
    let inner = and_parts (not (is_empty t)) (not (is_current_or_parent t)) outer.0 in
    let special = not-true (is_current_or_parent t) inner.1 in
    let parts = or_parts (bytes_eq t cur_dir) (bytes_eq t parent_dir) special in
    record {
      some = some t (not-true (is_empty t) inner.0);
      plain = plain;
      leads = stays_no t
          (not-true (is_empty t) inner.0) parts.0;
      down = parts.1;
      special = special;
    }
  where
    some : (t : Text) → is_empty t ≡ false → 0 < length t
    some [] e = absurd (true≢false e)
    some (x ∷ xs) e = omega arith

    stays_no : (t : Text) → is_empty t ≡ false → bytes_eq t cur_dir ≡ false → stays t ≡ false
    stays_no t e f = rw e f

pub resolve-own : (c : Content) (path : Text) (k : Key) (t : Text) (kind : Kind) → IsContent c → IsOwnName t
    → resolve c path ≡ Some k → kind_at c (k ++ t ∷ []) ≡ Some kind
    → resolve c (child path t) ≡ Some (k ++ t ∷ [])
resolve-own c path k t kind w is leads held =
    resolve_child c path t k leads is.some is.plain ∙ rw (held_above c w k t kind held, is.leads, is.down, held) refl

pub kind_found-own : (c : Content) (path : Text) (k : Key) (t : Text) → IsContent c → IsOwnName t → resolve c path ≡
    Some k → kind_found c (child path t) ≡ kind_at c (k ++ t ∷ [])
kind_found-own c path k t w is leads = by_kind (kind_at c (k ++ t ∷ [])) refl
  where
    by_dir : (b : Bool) → is_dir_at c k ≡ b → kind_at c (k ++ t ∷ []) ≡ None → step c t k ≡ None
    by_dir true d none = rw (d, is.leads, is.down, none) refl
    by_dir false d none = rw d refl

    by_kind : (found : Option Kind) → kind_at c (k ++ t ∷ []) ≡ found → kind_found c (child path t) ≡ kind_at c (k ++ t ∷ [])
    by_kind None e = rw (resolve_child c path t k leads is.some is.plain ∙ by_dir (is_dir_at c k) refl e, e) refl
    by_kind (Some kind) e = rw (resolve-own c path k t kind w is leads e) refl

pub look_result-own : (c : Content) (path : Text) (k : Key) (t : Text) → IsContent c → IsOwnName t → resolve c path ≡
    Some k → look_result c (child path t) ≡ look_of (kind_at c (k ++ t ∷ []))
unfolding look_result
look_result-own c path k t w is leads = ap look_of (kind_found-own c path k t w is leads)

-- right after `**`, another `**` is as plain as elsewhere
pub plain-after : (t : Text) (ts : List Text) → is_recursive t ≡ true → are_plain true (t ∷ ts) ≡ true → are_plain false (t ∷ ts) ≡ true
plain-after t ts r h =
    let both = and_parts (is_plain_component true t) (are_plain (is_recursive t) ts) h in
    and_from (is_plain_component false t) (are_plain (is_recursive t) ts) (ap (is_plain_component false) (recursive_is t r)) both.1

-- a wildcard component finds no special names, except right after `**`
pub no_specials : (c : Content) (o : MatchOptions) (next : Next) (t path : Text) → is_plain_component false t ≡ true
    → is_literal t ≡ false → special_names c o next t path ≡ []
no_specials c o next t path h wild =
    let outer = and_parts (not (is_empty t) && not (is_current_or_parent t)) (is_literal t || not (begins_with dot t) || false) h in
    by_test (begins_with dot t) refl outer.1
  where
    by_test : (b : Bool) → begins_with dot t ≡ b → (is_literal t || not b || false) ≡ true → special_names c o next t path ≡ []
    by_test true e k = absurd (both_ways (is_literal t || false || false) (rw wild refl) k)
    by_test false e k = rw e refl

module _ (c : Content) (w : IsContent c) (o : MatchOptions) (directories : Bool) where
  same-nothing : Same c (enter c o directories []) (enter_names c o directories [])
  unfolding enter enter_names
  same-nothing path k d at = by_test (not directories || d)
    where
      by_test : (b : Bool) → items (cond b (Give (Found path) ∷ []) []) ≡ map (item_under path) (cond b (Hit [] ∷ []) [])
      by_test true = refl
      by_test false = refl

  same-literal : (t : Text) (ts : List Text) → component_kind t ≡ Literal → IsOwnName t → Same c
      (enter c o directories ts) (enter_names c o directories ts) → Same c (enter c o directories (t ∷ ts))
      (enter_names c o directories (t ∷ ts))
  same-literal t ts kind is next path k d at =
      ap items (enter-literal c o directories t ts path d kind)
      ∙ by_kind (kind_at c (k ++ t ∷ [])) refl
      ∙ ap (map (item_under path)) (sym (names-literal c o directories t ts k d kind))
    where
      by_kind : (found : Option Kind) → kind_at c (k ++ t ∷ []) ≡ found
          → items (by_name c (enter c o directories ts) t path d) ≡ map (item_under path) (below t (at_name c o directories t ts k))
      by_kind None e = rw (is.special, kind_found-own c path k t w is at.resolved, e) refl
      by_kind (Some kind) e = rw (is.special, kind_found-own c path k t w is at.resolved, e)
          (next (child path t) (k ++ t ∷ []) (is_dir kind) (record {
            resolved = resolve-own c path k t kind w is
                at.resolved e;
            is = is_dir_at-kind c (k ++ t ∷ []) kind e;
          })
          ∙ sym (under-below path t (enter_names c o directories ts (k ++ t ∷ []) (is_dir kind))))

  same-wild : (t : Text) (ts : List Text) → component_kind t ≡ Wild → is_plain_component false t ≡ true → Same c
      (enter c o directories ts) (enter_names c o directories ts) → Same c (enter c o directories (t ∷ ts))
      (enter_names c o directories (t ∷ ts))
  same-wild t ts kind plain next path k false at = ap items (enter_none c o directories t ts path kind) ∙ ap
      (map (item_under path)) (sym (names-wild_none c o directories t ts k kind))
  same-wild t ts kind plain next path k true at =
      ap items (enter-wild c o directories t ts path kind)
      ∙ ap (λ before. items (list_directory c path before (λ name d. match_at o (enter c o directories ts) t
      (child path name) name d))) (no_specials c o (enter c o directories ts) t path plain (kind-Wild t kind).0)
      ∙ given-listed c path k (record { resolved = at.resolved; directory = at.is })
      (λ name d. match_at o (enter c o directories ts) t (child path name) name d)
      (λ e. below e.0 (at_entry c o directories t ts k e))
      (λ e in'.
      given-cond (matches_name o t e.0) (child path e.0) (enter c o directories ts (child path e.0) e.1)
      (enter_names c o directories ts (k ++ e.0 ∷ []) e.1)
      (λ m. next (child path e.0) (k ++ e.0 ∷ []) e.1 (Leads-entry c w path k (record { resolved = at.resolved; directory = at.is }) e in'))
      ∙ sym (under-below path e.0 (at_entry c o directories t ts k e)))
      ∙ ap (map (item_under path)) (sym (names-wild c o directories t ts k kind))

  same-recursive : (t : Text) (ts : List Text) → component_kind t ≡ Recursive → begins_recursive ts ≡ false → SameMet c
      (meet c o directories ts) (meet_names c o directories ts) → Same c (enter c o directories (t ∷ ts))
      (enter_names c o directories (t ∷ ts))
  same-recursive t ts kind last next path k false at = ap items (enter-recursive_none c o directories t ts path kind
      last) ∙ ap (map (item_under path)) (sym (names-recursive_none c o directories t ts k kind last))
  same-recursive t ts kind last next path k true at =
      ap items (enter-levels c o directories t ts path kind last)
      ∙ given-descent c w o (meet c o directories ts) (meet_names c o directories ts) next (levels c) path k
      (record { resolved = at.resolved; directory = at.is })
      ∙ ap (map (item_under path)) (sym (names-levels c o directories t ts k kind last))

  same-met_nothing : SameMet c (meet c o directories []) (meet_names c o directories [])
  unfolding meet meet_names
  same-met_nothing path k name d at = by_test (is_entered o name d)
    where
      by_test : (b : Bool) → items (cond b (Give (Found path) ∷ []) []) ≡ map (item_under path) (cond b (Hit [] ∷ []) [])
      by_test true = refl
      by_test false = refl

  same-met : (t : Text) (ts : List Text) → Same c (enter c o directories ts) (enter_names c o directories ts)
      → SameMet c (meet c o directories (t ∷ ts)) (meet_names c o directories (t ∷ ts))
  unfolding meet meet_names
  same-met t ts next path k name d at = given-cond (matches_name o t name) path (enter c o directories ts path d)
      (enter_names c o directories ts k d) (λ m. next path k d at)

  -- the same for a path with these components, and for an entry under `**`
  record BothSame (ts : List Text) : Type 0 where
    entered : are_plain false ts ≡ true → Same c (enter c o directories ts) (enter_names c o directories ts)
    met : begins_recursive ts ≡ false → are_plain true ts ≡ true → SameMet c (meet c o directories ts) (meet_names c o directories ts)

  same_after_run : (ts : List Text) → begins_recursive ts ≡ true → are_plain true ts ≡ true → BothSame ts → Same c
      (enter c o directories ts) (enter_names c o directories ts)
  same_after_run [] more plain next = absurd (false≢true more)
  same_after_run (t ∷ ts) more plain next = next.entered (plain-after t ts more plain)

  both_same-cons : (t : Text) (ts : List Text) → has_no_slash t ≡ true → BothSame ts → BothSame (t ∷ ts)
  both_same-cons t ts flat next = record {
    entered = λ plain.
        let both = and_parts (is_plain_component false t) (are_plain (is_recursive t) ts) plain in
        by_kind both.0 both.1 (component_kind t) refl;
    met = λ last plain.
        let both = and_parts (is_plain_component true t) (are_plain (is_recursive t) ts) plain in
        same-met t ts (next.entered (subst (λ b. are_plain b ts ≡ true) last both.1));
  }
    where
      by_run : component_kind t ≡ Recursive → are_plain true ts ≡ true → (b : Bool) → begins_recursive ts ≡ b → Same c
          (enter c o directories (t ∷ ts)) (enter_names c o directories (t ∷ ts))
      by_run kind plain true more = λ path k d at.
          ap items (enter-run c o directories t ts path d kind more) ∙ same_after_run ts more plain next path k d at
          ∙ ap (map (item_under path)) (sym (names-run c o directories t ts k d kind more))
      by_run kind plain false last = same-recursive t ts kind last (next.met last plain)

      by_kind : is_plain_component false t ≡ true → are_plain (is_recursive t) ts ≡ true → (kind : ComponentKind)
          → component_kind t ≡ kind → Same c (enter c o directories (t ∷ ts)) (enter_names c o directories (t ∷ ts))
      by_kind here further Literal kind =
          same-literal t ts kind (own_name false t here flat) (next.entered (subst (λ b. are_plain b ts ≡ true)
          (literal_not_recursive t (kind-Literal t kind)) further))
      by_kind here further Recursive kind = by_run kind (subst (λ b. are_plain b ts ≡ true) (kind-Recursive t kind)
          further) (begins_recursive ts) refl
      by_kind here further Wild kind = same-wild t ts kind here (next.entered (subst (λ b. are_plain b ts ≡ true)
          (kind-Wild t kind).1 further))

  both_same : (ts : List Text) → list_all has_no_slash ts ≡ true → BothSame ts
  both_same [] slashless = record { entered = λ plain. same-nothing; met = λ last plain. same-met_nothing }
  both_same (t ∷ ts) slashless =
      let flat = and_parts (has_no_slash t) (list_all has_no_slash ts) slashless in
      both_same-cons t ts flat.0 (both_same ts flat.1)

  -- With components of a plain pattern, the items at a path are the items of the names found at its key.
  pub same_enter : (ts : List Text) → are_plain false ts ≡ true → list_all has_no_slash ts ≡ true → (path : Text)
      (k : Key) (d : Bool) → Leads c path k d
      → items (enter c o directories ts path d) ≡ map (item_under path) (enter_names c o directories ts k d)
  same_enter ts plain slashless path k d at = (both_same ts slashless).entered plain path k d at
