-- What a search gives is to be found, or cannot be read.
use Rattle.std.proofs.Common.{◌≡◌, ℕ, zero, suc, ◌<◌, Bool, true, false, cond, not, ◌&&◌, ⊎_elim, List, [], ◌∷◌, ◌++◌}
use Rattle.std.proofs.Common.{length, flat_map, Option, Some, None, refl, ap, sym, subst, ◌∙◌, arith}
use Rattle.std.specs.Prelude.{Contains, nat_lt, nat_le}
use Rattle.std.specs.declared.io.ErrorKind.{ErrorKind}
use Rattle.std.proofs.lemmas.Bool.{and_parts, and_from, ltb-true, lt-ltb, le-leb}
use Rattle.std.proofs.lemmas.List.{append_assoc, length-append}
use Rattle.std.proofs.lemmas.List.Elements.{Contains-append_cases}
use Rattle.glob_text.specs.Text.{Text}
use Rattle.glob_tree.specs.Content.{Content, Key, DirEntry, kind_at, is_dir, children, sorted_entries}
use Rattle.glob_tree.specs.declared.kind.Kind.{Kind}
use Rattle.glob_tree.specs.declared.kind.Kind.TheVariants.{Dir, Shut, Other}
use Rattle.glob_tree.proofs.ContentLemmas.Contents.{IsContent, IsChild-list_result}
use Rattle.glob_tree.proofs.ContentLemmas.Membership.{Contains-nil}
use Rattle.glob_tree.proofs.ContentLemmas.Sorting.{Contains-sorted_entries}
use Rattle.glob_search.specs.Searching.{Aim, is_taken, goes_on, is_ignored, is_closed, is_listed, is_nil, is_shut, is_found, is_unread}
use Rattle.glob_search.specs.Visiting.{Gift, Found, Unread, found_at, inside, visit, meet}
use Rattle.glob_search.proofs.OrderLemmas.Parts.{Contains-flat_map, Contains-one}
use Rattle.glob_search.proofs.OrderLemmas.Ways.{reached-further, reached_from}

module _ (c : Content) (a : Aim) where
  -- names that are to be found
  pub record IsFound (names : Key) : Type 0 where
    pub kind : Kind
    pub held : kind_at c (c.current ++ names) ≡ Some kind
    pub is : is_found c a kind names ≡ true

  -- a directory that cannot be listed
  pub record IsUnread (names : Key) (kind : ErrorKind) : Type 0 where
    pub held : kind_at c (c.current ++ names) ≡ Some (Shut kind)
    pub is : is_unread c a names ≡ true

  -- what is given is one of these
  abbrev pub IsRight : Gift → Type 0
  IsRight (Found names) = IsFound names
  IsRight (Unread names kind) = IsUnread names kind

  -- a directory that is entered
  record Entered (names : Key) : Type 0 where
    within : length names < a.depth
    reached : reached_from c a [] names true ≡ true

  -- all that is given is right
  abbrev Gives : List Gift → Type 0
  Gives gs = (g : Gift) → Contains gs g → IsRight g

  is_nil-further : (names : Key) (n : Text) → not (is_nil (names ++ n ∷ [])) ≡ true
  is_nil-further [] n = refl
  is_nil-further (m ∷ ms) n = refl

  found-right : (names : Key) (n : Text) (kind : Kind) → Entered names → kind_at c (c.current ++ (names ++ n ∷ [])) ≡ Some kind
      → reached_from c a [] (names ++ n ∷ []) (is_dir kind) ≡ true → Gives (found_at c a (names ++ n ∷ []) (Some kind))
  found-right names n kind e held reached g = by_test (a.is_wanted kind && is_taken a (names ++ n ∷ [])) refl
    where
      by_test : (b : Bool) → (a.is_wanted kind && is_taken a (names ++ n ∷ [])) ≡ b → Contains
          (cond b (Found (names ++ n ∷ []) ∷ []) []) g → IsRight g
      by_test true h in' =
          let (wanted, taken) = and_parts (a.is_wanted kind) (is_taken a (names ++ n ∷ [])) h in
          let short : nat_le (length (names ++ n ∷ [])) a.depth ≡ true = le-leb _ _
          (omega (arith, e.within, length-append names (n ∷ []))) in
          let is : is_found c a kind (names ++ n ∷ []) ≡ true =
          and_from _ _ (and_from _ _ (and_from _ _ (and_from _ _ (is_nil-further names n) short) wanted) taken) reached in
          subst IsRight (Contains-one (Found (names ++ n ∷ [])) g in') (record { kind = kind; held = held; is = is })
      by_test false h in' = absurd (Contains-nil g in')

  -- what an entry gives, if what a directory gives is right one level down
  meet-right : IsContent c → (levels : ℕ) (names : Key) → Entered names → is_closed c a names ≡ false
      → (e : DirEntry) → Contains (children c (c.current ++ names)) e
      → (Entered (names ++ e.0 ∷ []) → Gives (visit c a levels (names ++ e.0 ∷ [])))
      → Gives (meet c a (visit c a levels) (names ++ e.0 ∷ []) e.1)
  meet-right w levels names entered closed e listed again g =
      let is = IsChild-list_result c w (c.current ++ names) e listed in
      by_ignored is.kind (sym regrouped ∙ is.held) is.is_same (is_ignored a (names ++ e.0 ∷ []) e.1) refl
    where
      regrouped : kind_at c ((c.current ++ names) ++ e.0 ∷ []) ≡ kind_at c (c.current ++ (names ++ e.0 ∷ []))
      regrouped = ap (kind_at c) (append_assoc c.current names (e.0 ∷ []))

      reached : is_ignored a (names ++ e.0 ∷ []) e.1 ≡ false → reached_from c a [] (names ++ e.0 ∷ []) e.1 ≡ true
      reached kept = reached-further c a [] names names e.0 e.1 refl entered.reached closed kept

      by_entered : reached_from c a [] (names ++ e.0 ∷ []) e.1 ≡ true → (b : Bool) → (e.1 && nat_lt
          (length (names ++ e.0 ∷ [])) a.depth && goes_on a (names ++ e.0 ∷ [])) ≡ b
          → Contains (cond b (visit c a levels (names ++ e.0 ∷ [])) []) g → IsRight g
      by_entered r true h in' =
          let outer = and_parts (e.1 && nat_lt (length (names ++ e.0 ∷ [])) a.depth) (goes_on a (names ++ e.0 ∷ [])) h in
          let (directory, short) = and_parts e.1 (nat_lt (length (names ++ e.0 ∷ [])) a.depth) outer.0 in
          again (record { within = ltb-true _ _ short; reached = ap (reached_from c a [] (names ++ e.0 ∷ [])) (sym directory) ∙ r }) g in'
      by_entered r false h in' = absurd (Contains-nil g in')

      by_ignored : (kind : Kind) → kind_at c (c.current ++ (names ++ e.0 ∷ [])) ≡ Some kind → is_dir kind ≡ e.1 →
          (b : Bool) → is_ignored a (names ++ e.0 ∷ []) e.1 ≡ b
          → Contains (cond b [] (found_at c a (names ++ e.0 ∷ []) (kind_at c (c.current ++ (names ++ e.0 ∷ [])))
          ++ cond (e.1 && nat_lt (length (names ++ e.0 ∷ [])) a.depth && goes_on a (names ++ e.0 ∷ []))
          (visit c a levels (names ++ e.0 ∷ [])) [])) g
          → IsRight g
      by_ignored kind held d true ignored in' = absurd (Contains-nil g in')
      by_ignored kind held d false kept in' = ⊎_elim
          (λ here. found-right names e.0 kind entered held (ap (reached_from c a [] (names ++ e.0 ∷ [])) d ∙ reached kept) g
          (subst (λ o. Contains (found_at c a (names ++ e.0 ∷ []) o) g) held here))
          (λ deeper. by_entered (reached kept) (e.1 && nat_lt (length (names ++ e.0 ∷ [])) a.depth && goes_on a
          (names ++ e.0 ∷ [])) refl deeper)
          (Contains-append_cases (found_at c a (names ++ e.0 ∷ []) (kind_at c (c.current ++ (names ++ e.0 ∷ [])))) _ g in')

  visit-right : IsContent c → (levels : ℕ) (names : Key) → Entered names → Gives (visit c a levels names)
  unfolding visit
  visit-right w zero names entered g = λ in'. absurd (Contains-nil g in')
  visit-right w (suc n) names entered g = by_kind (λ at. visit-right w n at) (kind_at c (c.current ++ names)) refl
    where
      entries : ((at : Key) → Entered at → Gives (visit c a n at)) → is_closed c a names ≡ false
          → Contains (flat_map (λ e. meet c a (visit c a n) (names ++ e.0 ∷ []) e.1) (sorted_entries
          (children c (c.current ++ names)))) g → IsRight g
      entries again closed in' =
          let (e, listed, gives) = Contains-flat_map (λ e. meet c a (visit c a n) (names ++ e.0 ∷ []) e.1)
          (sorted_entries (children c (c.current ++ names))) g in' in
          meet-right w n names entered closed e (Contains-sorted_entries (children c (c.current ++ names)) e listed)
          (again (names ++ e.0 ∷ [])) g gives

      by_listed : ((at : Key) → Entered at → Gives (visit c a n at)) → (kind : ErrorKind) → kind_at c
          (c.current ++ names) ≡ Some (Shut kind) → (b : Bool) → is_listed a names ≡ b
          → Contains (cond b (Unread names kind ∷ []) (flat_map (λ e. meet c a (visit c a n) (names ++ e.0 ∷ []) e.1)
          (sorted_entries (children c (c.current ++ names))))) g → IsRight g
      by_listed again kind held true listed in' =
          let closed : is_closed c a names ≡ true = ap (λ k. is_shut k && is_listed a names) held ∙ listed in
          subst IsRight (Contains-one (Unread names kind) g in')
          (record { held = held; is = and_from _ _ (and_from _ _ closed (lt-ltb _ _ entered.within)) entered.reached })
      by_listed again kind held false listed in' = entries again (ap (λ k. is_shut k && is_listed a names) held ∙ listed) in'

      by_kind : ((at : Key) → Entered at → Gives (visit c a n at)) → (o : Option Kind) → kind_at c (c.current ++ names) ≡ o
          → Contains (inside a names o (flat_map (λ e. meet c a (visit c a n) (names ++ e.0 ∷ []) e.1) (sorted_entries
          (children c (c.current ++ names))))) g → IsRight g
      by_kind again None held in' = absurd (Contains-nil g in')
      by_kind again (Some Dir) held in' = entries again (ap (λ k. is_shut k && is_listed a names) held) in'
      by_kind again (Some (Shut kind)) held in' = by_listed again kind held (is_listed a names) refl in'
      by_kind again (Some Other) held in' = absurd (Contains-nil g in')

  pub visit-is_right : IsContent c → (levels : ℕ) → 0 < a.depth → (g : Gift) → Contains (visit c a levels []) g → IsRight g
  visit-is_right w levels some = visit-right w levels [] (record { within = some; reached = refl })
