-- If only literals go on, an entry that no literal matches gives nothing.
use Rattle.std.proofs.Common.{◌≡◌, Bool, true, false, cond, not, ◌&&◌, ◌⊎◌, inl, inr, ⊎_elim, List, [], ◌∷◌, ◌++◌}
use Rattle.std.proofs.Common.{Option, Some, None, refl, ap, ap₂, sym, subst, ◌∙◌, length}
use Rattle.std.specs.Prelude.{Contains, nat_lt}
use Rattle.std.specs.List.{list_any, list_all}
use Rattle.std.specs.Str.{chars}
use Rattle.std.proofs.lemmas.Bool.{false≢true, and_parts, and_from, or_cases, or_left, or_right, not-true, not-false}
use Rattle.std.proofs.lemmas.Bool.{both_ways, cond-false, false_from_ne_true, and_right}
use Rattle.std.proofs.lemmas.List.{append-nil}
use Rattle.std.proofs.lemmas.Slice.Eq.{bytes_eq-Decides}
use Rattle.glob_text.specs.Text.{Text}
use Rattle.glob_text.specs.Pieces.{pieces}
use Rattle.glob_pattern.specs.Grammar.Characters.{is_wildcard, star}
use Rattle.glob_pattern.specs.Matching.Components.{is_open, is_recursive}
use Rattle.glob_pattern.specs.Computing.Deciding.{is_match}
use Rattle.glob_pattern.specs.declared.options.MatchOptions.{MatchOptions}
use Rattle.glob_tree.specs.Content.{Key, kind_at}
use Rattle.glob_tree.specs.declared.kind.Kind.{Kind}
use Rattle.glob_tree.proofs.ContentLemmas.Membership.{list_all-contains, list_any-contains}
use Rattle.glob_search.specs.Laws.{OnlyNamedGive}
use Rattle.glob_search.specs.Searching.{Aim, takes, ended, ends_recursive, components, is_taken, alive, goes_on}
use Rattle.glob_search.specs.Searching.{is_named, is_listed, is_ignored}
use Rattle.glob_search.specs.Visiting.{found_at}
use Rattle.glob_search.proofs.OrderLemmas.Beginnings.{ends-cons, ended-ends, recursive-takes, takes-recursive, takes-other}
use Rattle.glob_search.proofs.OrderLemmas.GoingOn.{leads-from, in_alive}
use Rattle.glob_search.proofs.OrderLemmas.Parts.{Contains-map, list_any-some}

-- Components that take some names and one more begin with components that take the first names, and then a component
-- takes the last name, or there is a `**`.
record Last (o : MatchOptions) (whole : List Text) (names : Key) (n : Text) : Type 0 where
  front : List Text
  next : Text
  rest : List Text
  parts : whole ≡ front ++ next ∷ rest
  taken : takes o front names ≡ true
  by : (is_recursive next ≡ true) ⊎ ((is_match o (chars next) (chars n) ≡ true) ⊎ (ends_recursive front ≡ true))

after : (o : MatchOptions) (t : Text) (whole : List Text) (names others : Key) (n : Text) (l : Last o whole others n)
    → takes o (t ∷ l.front) names ≡ true
    → Last o (t ∷ whole) names n
after o t whole names others n l h = record {
  front = t ∷ l.front;
  next = l.next;
  rest = l.rest;
  parts = ap (λ us. t ∷ us) l.parts;
  taken = h;
  by = ⊎_elim inl (λ more. ⊎_elim (λ m. inr (inl m)) (λ e. inr (inr (ends-cons t l.front e))) more) l.by;
}

last : (o : MatchOptions) (ts more : List Text) (names : Key) (n : Text) → (more ≡ [] → ends_recursive ts ≡ false)
    → takes o ts (names ++ n ∷ []) ≡ true
    → Last o (ts ++ more) names n
last o [] more [] n proper h = absurd (false≢true h)
last o [] more (m ∷ ms) n proper h = absurd (false≢true h)
last o (t ∷ ts) more [] n proper h = by_test (is_recursive t) refl
  where
    by_test : (b : Bool) → is_recursive t ≡ b → Last o (t ∷ (ts ++ more)) [] n
    by_test true r = record { front = []; next = t; rest = ts ++ more; parts = refl; taken = refl; by = inl r }
    by_test false r = record {
      front = [];
      next = t;
      rest = ts ++ more;
      parts = refl;
      taken = refl;
      by = inr
          (inl (and_parts _ _ (sym (takes-other o t ts n [] r) ∙ h)).0);
    }
last o (t ∷ ts) more (m ∷ ms) n proper h = by_test (is_recursive t) refl
    (λ g. last o ts more (m ∷ ms) n (λ none. shorter none) g) (λ g. last o (t ∷ ts) more ms n proper g)
    (λ g. last o ts more ms n (λ none. shorter none) g)
  where
    shorter : more ≡ [] → ends_recursive ts ≡ false
    shorter none = false_from_ne_true (ends_recursive ts) (λ e. both_ways (ends_recursive (t ∷ ts)) (proper none) (ends-cons t ts e))

    beyond : (us more : List Text) → (more ≡ [] → ends_recursive (t ∷ us) ≡ false) → is_recursive t ≡ true
        → is_open o m ≡ true → takes o [] ms ≡ true → Last o (t ∷ (us ++ more)) (m ∷ ms) n
    beyond us more proper r open' none = by_next us more proper
      where
        one : takes o (t ∷ []) (m ∷ ms) ≡ true
        one = takes-recursive o t [] m ms r ∙ or_right (takes o [] (m ∷ ms)) (is_open o m && takes o (t ∷ []) ms)
            (and_from (is_open o m) (takes o (t ∷ []) ms) open' (recursive-takes o t r ms none))

        by_next : (us more : List Text) → (more ≡ [] → ends_recursive (t ∷ us) ≡ false) → Last o (t ∷ (us ++ more)) (m ∷ ms) n
        by_next [] [] proper = absurd (both_ways (is_recursive t) (proper refl) r)
        by_next [] (x ∷ xs) proper = record { front = t ∷ []; next = x; rest = xs; parts = refl; taken = one; by = inr (inr r) }
        by_next (u ∷ us) more proper = record { front = t ∷ []; next = u; rest = us ++ more; parts = refl; taken = one; by = inr (inr r) }

    over : is_recursive t ≡ true → is_open o m ≡ true → Last o (t ∷ (ts ++ more)) ms n → Last o (t ∷ (ts ++ more)) (m ∷ ms) n
    over r open' l = by_front l.front l.next l.rest l.parts l.taken l.by
      where
        by_front : (front : List Text) (next : Text) (rest : List Text) → t ∷ (ts ++ more) ≡ front ++ next ∷ rest → takes o front ms ≡ true
            → (is_recursive next ≡ true) ⊎ ((is_match o (chars next) (chars n) ≡ true) ⊎ (ends_recursive front ≡ true))
            → Last o (t ∷ (ts ++ more)) (m ∷ ms) n
        by_front [] next rest parts h by = beyond ts more proper r open' h
        by_front (u ∷ us) next rest parts h by =
            let same : t ≡ u = cc in
            record {
              front = u ∷ us;
              next = next;
              rest = rest;
              parts = parts;
              taken = subst (λ v. takes o (v ∷ us) (m ∷ ms) ≡ true) same
                  (takes-recursive o t us m ms r ∙ or_right (takes o us (m ∷ ms)) (is_open o m && takes o (t ∷ us) ms)
                  (and_from (is_open o m) (takes o (t ∷ us) ms) open' (subst (λ v. takes o (v ∷ us) ms ≡ true) (sym same) h)));
              by = by;
            }

    by_test : (b : Bool) → is_recursive t ≡ b
        → (takes o ts (m ∷ (ms ++ n ∷ [])) ≡ true → Last o (ts ++ more) (m ∷ ms) n)
        → (takes o (t ∷ ts) (ms ++ n ∷ []) ≡ true → Last o (t ∷ (ts ++ more)) ms n)
        → (takes o ts (ms ++ n ∷ []) ≡ true → Last o (ts ++ more) ms n)
        → Last o (t ∷ (ts ++ more)) (m ∷ ms) n
    by_test true r skip again next = ⊎_elim
        (λ g. let l = skip g in after o t (ts ++ more) (m ∷ ms) (m ∷ ms) n l (takes-recursive o t l.front m ms r
        ∙ or_left (takes o l.front (m ∷ ms)) _ l.taken))
        (λ g. let both = and_parts (is_open o m) (takes o (t ∷ ts) (ms ++ n ∷ [])) g in over r both.0 (again both.1))
        (or_cases (takes o ts (m ∷ (ms ++ n ∷ []))) (is_open o m && takes o (t ∷ ts) (ms ++ n ∷ []))
        (sym (takes-recursive o t ts m (ms ++ n ∷ []) r) ∙ h))
    by_test false r skip again next =
        let both = and_parts (is_match o (chars t) (chars m)) (takes o ts (ms ++ n ∷ []))
        (sym (takes-other o t ts m (ms ++ n ∷ []) r) ∙ h) in
        let l = next both.1 in
        after o t (ts ++ more) (m ∷ ms) ms n l (takes-other o t l.front m ms r ∙ and_from _ _ both.0 l.taken)

-- `**` is a wildcard
recursive-wild : (t : Text) → is_recursive t ≡ true → list_any is_wildcard t ≡ true
recursive-wild t r = ap (list_any is_wildcard) ((bytes_eq-Decides t (star ∷ star ∷ [])).0 r)

module _ (a : Aim) (names : Key) (n : Text) (unlisted : is_listed a names ≡ false)
    (other : list_any (λ b. is_match a.options (chars b.1) (chars n)) (alive a names) ≡ false) where
  -- nothing that is alive takes the name
  none-takes : (whole : List Text) → Contains (components a) whole → Last a.options whole names n → ⊥
  none-takes whole one l =
      let live = in_alive a names (record {
        whole = whole;
        front = l.front;
        next = l.next;
        rest = l.rest;
        is_one =
            one;
        parts = l.parts;
        taken = l.taken;
      }) in
      let named = list_all-contains (is_named a.options) (alive a names) (l.front, l.next)
      (not-false (list_all (is_named a.options) (alive a names)) unlisted) live in
      let (outer, plain) = and_parts (a.options.case_sensitive && not (ends_recursive l.front)) (not (list_any is_wildcard l.next)) named in
      let (_, ends) = and_parts a.options.case_sensitive (not (ends_recursive l.front)) outer in
      ⊎_elim (λ r. both_ways (list_any is_wildcard l.next) (not-true _ plain) (recursive-wild l.next r))
      (λ more. ⊎_elim
      (λ m. both_ways (list_any (λ b. is_match a.options (chars b.1) (chars n)) (alive a names)) other
      (list_any-contains (λ b. is_match a.options (chars b.1) (chars n)) (alive a names) (l.front, l.next) m live))
      (λ e. both_ways (ends_recursive l.front) (not-true _ ends) e) more) l.by

  not-taken : is_taken a (names ++ n ∷ []) ≡ false
  not-taken = false_from_ne_true _ (λ h.
      let (ts, one, taken) = list_any-some (λ ts. takes a.options ts (names ++ n ∷ [])) (components a) h in
      let (p, _, is) = Contains-map (λ p. ended (pieces p)) a.patterns ts one in
      none-takes (ts ++ []) (subst (Contains (components a)) (sym (append-nil ts)) one)
      (last a.options ts [] names n (λ none. ap ends_recursive (sym is) ∙ ended-ends (pieces p)) taken))

  not-on : goes_on a (names ++ n ∷ []) ≡ false
  not-on = false_from_ne_true _ (λ h.
      let l = leads-from a (names ++ n ∷ []) h in
      none-takes (l.front ++ l.next ∷ l.rest) (subst (Contains (components a)) l.parts l.is_one)
      (last a.options l.front (l.next ∷ l.rest) names n (λ none. absurd (cc)) l.taken))

pub only_named_give : OnlyNamedGive
only_named_give c a names n enter d unlisted other = by_test (is_ignored a (names ++ n ∷ []) d)
  where
    nothing : (o : Option Kind) → found_at c a (names ++ n ∷ []) o ≡ []
    nothing None = refl
    nothing (Some kind) = cond-false (a.is_wanted kind && is_taken a (names ++ n ∷ [])) _ []
        (and_right (a.is_wanted kind) _ (not-taken a names n unlisted other))

    by_test : (b : Bool) → cond b [] (found_at c a (names ++ n ∷ []) (kind_at c (c.current ++ (names ++ n ∷ [])))
        ++ cond (d && nat_lt (length (names ++ n ∷ [])) a.depth && goes_on a (names ++ n ∷ [])) (enter (names ++ n ∷ [])) []) ≡ []
    by_test true = refl
    by_test false = ap₂ (λ x y. x ++ y) (nothing (kind_at c (c.current ++ (names ++ n ∷ []))))
        (cond-false (d && nat_lt (length (names ++ n ∷ [])) a.depth && goes_on a (names ++ n ∷ [])) _ []
        (and_right (d && nat_lt (length (names ++ n ∷ [])) a.depth) _ (not-on a names n unlisted other)))
