-- What a listing of a directory of the content says.
use Rattle.std.proofs.Common.{◌≡◌, true, List, [], ◌∷◌, ◌++◌, Some, refl, ap, sym, subst, ◌∙◌}
use Rattle.std.specs.Prelude.{Contains}
use Rattle.std.specs.List.Sorted.{IsPermutation}
use Rattle.std.specs.Option.{ForSome}
use Rattle.std.specs.declared.io.ErrorKind.{ErrorKind}
use Rattle.std.proofs.lemmas.List.{append_assoc}
use Rattle.std.proofs.lemmas.List.Sorted.{Contains-permutation, IsPermutation-map, IsPermutation-sym}
use Rattle.glob_text.specs.Text.{Text}
use Rattle.glob_tree.specs.Answers.{IsListFault, entries_of, names_of}
use Rattle.glob_tree.specs.Content.{Content, DirEntry, Key, Entries, Fails, children, is_dir_at, kind_at, list_result}
use Rattle.glob_tree.specs.declared.kind.Kind.TheVariants.{Shut}
use Rattle.glob_tree.specs.declared.tree.Entry.{Entry}
use Rattle.glob_tree.proofs.ContentLemmas.Contents.{IsContent, IsChild, IsChild-list_result}
use Rattle.glob_tree.proofs.ContentLemmas.Directories.{Read, Unreadable, ListsAs-from_leads, LeadsTo}
use Rattle.glob_tree.proofs.ContentLemmas.Membership.{All-from_contains}
use Rattle.glob_search.specs.Aims.{path_of}
use Rattle.glob_search.specs.Private.Listings.{AreListed, IsEntry, IsSourceAnswer, known_kind, names_down}
use Rattle.glob_search.specs.declared.frame.Source.{Source}
use Rattle.glob_search.specs.declared.frame.Source.TheVariants.{LookedUp, Listed, Named}
use Rattle.glob_search.proofs.EngineLemmas.Paths.{path-leads}
use Rattle.glob_search.proofs.OrderLemmas.Parts.{Contains-map, map-contains}

module _ (c : Content) (w : IsContent c) (names : Key) (there : is_dir_at c (c.current ++ names) ≡ true) (text : Text)
    (is : text ≡ path_of names) where
  abbrev at : Key
  at = c.current ++ names

  leads : LeadsTo c text at
  leads = subst (λ t. LeadsTo c t at) (sym is) (path-leads c w names there)

  -- the fault of a directory that cannot be listed
  pub listed-shut : (kind : ErrorKind) → IsListFault (list_result c text) kind → kind_at c at ≡ Some (Shut kind)
  listed-shut kind fault = elim (ListsAs-from_leads c text at leads) [
    | Read held said ↦ absurd (subst (λ a. IsListFault a kind) said fault)
    | Unreadable wanted held said ↦ held ∙ ap (λ k. Some (Shut k)) (sym (subst (λ a. IsListFault a kind) said fault))
  ]

  moved-names : (source : Source) (es : List DirEntry) → IsSourceAnswer source (Entries (children c at)) es
      → IsPermutation (names_of (children c at)) (names_of es)
  moved-names LookedUp es h = IsPermutation-map (λ e. e.0) (children c at) es h
  moved-names Listed es h = IsPermutation-map (λ e. e.0) (children c at) es h
  moved-names Named es h = h.0

  child-entry : {A : Type 0} (source : Source) (e : Entry A) (l : DirEntry) → IsChild c at l → l.0 ≡ e.name → ForSome
      (known_kind source e) (λ d. d ≡ l.1) → IsEntry c names source e
  child-entry source e l child named known = record {
    kind = child.kind;
    held = ap (kind_at c) (sym (append_assoc c.current names (e.name ∷ [])) ∙ ap (λ n. at ++ n ∷ []) (sym named)) ∙ child.held;
    known = λ d h. known d h ∙ sym child.is_same;
  }

  entry-from : {A : Type 0} (source : Source) (es : List (Entry A)) (e : Entry A) → IsSourceAnswer source
      (Entries (children c at)) (entries_of es) → Contains es e
      → IsEntry c names source e
  entry-from {A} Named es e h in' =
      let f : Entry A → DirEntry = λ x. (x.name, x.is_dir) in
      let named = map-contains (λ l. l.0) (entries_of es) (f e) e.name (map-contains f es e (f e) in' refl) refl in
      let (l, child, same) = Contains-map (λ l. l.0) (children c at) e.name (Contains-permutation
      (names_of (entries_of es)) (names_of (children c at)) e.name
      (IsPermutation-sym (names_of (children c at)) (names_of (entries_of es)) h.0) named) in
      child-entry Named e l (IsChild-list_result c w at l child) same (λ d none. absurd (cc))
  entry-from {A} Listed es e h in' =
      let f : Entry A → DirEntry = λ x. (x.name, x.is_dir) in
      let child = Contains-permutation (entries_of es) (children c at) (f e) (IsPermutation-sym (children c at)
      (entries_of es) h) (map-contains f es e (f e) in' refl) in
      child-entry Listed e (f e) (IsChild-list_result c w at (f e) child) refl (λ d same. cc)
  entry-from {A} LookedUp es e h in' =
      let f : Entry A → DirEntry = λ x. (x.name, x.is_dir) in
      let child = Contains-permutation (entries_of es) (children c at) (f e) (IsPermutation-sym (children c at)
      (entries_of es) h) (map-contains f es e (f e) in' refl) in
      child-entry LookedUp e (f e) (IsChild-list_result c w at (f e) child) refl (λ d same. cc)

  -- all entries of a directory that can be listed
  pub listed-all : {A : Type 0} (source : Source) (es made : List (Entry A)) → IsSourceAnswer source (list_result c text) (entries_of es)
      → (IsPermutation (names_of (children c at)) (names_of (entries_of es)) → IsPermutation es made ×
      (names_of (entries_of made) ≡ names_down c names))
      → AreListed c names source made
  listed-all source es made answer order = elim (ListsAs-from_leads c text at leads) [
    | Read held said ↦
        let h : IsSourceAnswer source (Entries (children c at)) (entries_of es) = subst (λ a. IsSourceAnswer source a
        (entries_of es)) said answer in
        let (moved, down) = order (moved-names source (entries_of es) h) in
        record {
          kind = held;
          order = down;
          each = All-from_contains (IsEntry c names source) made
              (λ e in'. entry-from source es e h (Contains-permutation made es e (IsPermutation-sym es made moved) in'));
        }
    | Unreadable kind held said ↦ absurd (none source kind (subst (λ a. IsSourceAnswer source a (entries_of es)) said answer))
  ]
    where
      none : (source : Source) (kind : ErrorKind) → IsSourceAnswer source (Fails kind) (entries_of es) → ⊥
      none LookedUp kind h = h
      none Listed kind h = h
      none Named kind h = h
