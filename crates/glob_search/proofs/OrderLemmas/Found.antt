-- What a search gives is what is to be found, and what cannot be listed.
use Rattle.std.proofs.Common.{◌≡◌, ◌<◌, Bool, true, false, cond, [], ◌++◌, Option, Some, None, refl, ap, sym, subst, ◌∙◌}
use Rattle.std.specs.Prelude.{Contains, nat_lt, filter, option_map}
use Rattle.std.specs.declared.io.ErrorKind.{ErrorKind}
use Rattle.std.proofs.lemmas.Bool.{lt-ltb, ltb-true, cond-true}
use Rattle.std.proofs.lemmas.Option.{none-some, same_Some}
use Rattle.glob_tree.specs.Content.{Content, Key, kind_at, names_past}
use Rattle.glob_tree.specs.declared.kind.Kind.{Kind}
use Rattle.glob_tree.specs.declared.kind.Kind.TheVariants.{Shut}
use Rattle.glob_tree.proofs.ContentLemmas.Contents.{IsContent, IsContent-from_test, kind_at-entry, contains_kind_at}
use Rattle.glob_tree.proofs.ContentLemmas.Contents.{names_past-append, names_past_is}
use Rattle.glob_tree.proofs.ContentLemmas.Membership.{Contains-nil, Contains-filter_map, filter_map-contains}
use Rattle.glob_search.specs.Laws.{FindsTheFound, ReportsTheUnread}
use Rattle.glob_search.specs.Searching.{Aim, below, found, is_found, unread, is_unread}
use Rattle.glob_search.specs.Visiting.{Gift, Found, Unread, gifts, visit, levels}
use Rattle.glob_search.proofs.OrderLemmas.Parts.{Contains-map, map-contains, Contains-filter, filter-contains}
use Rattle.glob_search.proofs.OrderLemmas.Sound.{IsFound, IsUnread, IsRight, visit-is_right}
use Rattle.glob_search.proofs.OrderLemmas.Complete.{found-given, unread-given}

-- what is below the start of a content
below-held : (c : Content) → IsContent c → (e : Key × Kind) → Contains (below c) e → kind_at c (c.current ++ e.0) ≡ Some e.1
below-held c w e h =
    let (key, in', gives) = Contains-filter_map (λ e. option_map (λ names. (names, e.1)) (names_past c.current e.0)) c.kinds e h in
    by_past key (names_past c.current key.0) refl (kind_at-entry c w key in') gives
  where
    by_past : (key : Key × Kind) (o : Option Key) → names_past c.current key.0 ≡ o → kind_at c key.0 ≡ Some key.1
        → option_map (λ names. (names, key.1)) o ≡ Some e
        → kind_at c (c.current ++ e.0) ≡ Some e.1
    by_past key None past held h = absurd (none-some e h)
    by_past key (Some names) past held h =
        let same = same_Some (names, key.1) e h in
        ap (λ f. kind_at c (c.current ++ f.0)) (sym same) ∙ ap (kind_at c)
        (sym (names_past_is c.current key.0 names past)) ∙ held ∙ ap (λ f. Some f.1) same

held-below : (c : Content) (names : Key) (kind : Kind) → kind_at c (c.current ++ names) ≡ Some kind → Contains (below c) (names, kind)
held-below c names kind held =
    filter_map-contains (λ e. option_map (λ ns. (ns, e.1)) (names_past c.current e.0)) c.kinds (c.current ++ names, kind) (names, kind)
    (contains_kind_at c (c.current ++ names) kind held) (ap (option_map (λ ns. (ns, kind))) (names_past-append c.current names))

module _ (c : Content) (a : Aim) (w : IsContent c) where
  found-is : (names : Key) → Contains (found c a) names → IsFound c a names
  unfolding found
  found-is names h =
      let (e, in', same) = Contains-map (λ e. e.0) (filter (λ e. is_found c a e.1 e.0) (below c)) names h in
      let (there, is) = Contains-filter (λ e. is_found c a e.1 e.0) (below c) e in' in
      record {
        kind = e.1;
        held = ap (λ k. kind_at c (c.current ++ k)) (sym same) ∙ below-held c w e there;
        is = ap
            (is_found c a e.1) (sym same) ∙ is;
      }

  is-found : (names : Key) → IsFound c a names → Contains (found c a) names
  unfolding found
  is-found names f = map-contains (λ e. e.0) (filter (λ e. is_found c a e.1 e.0) (below c)) (names, f.kind) names
      (filter-contains (λ e. is_found c a e.1 e.0) (below c) (names, f.kind) (held-below c names f.kind f.held) f.is) refl

  unread-is : (names : Key) (kind : ErrorKind) → Contains (unread c a) names → kind_at c (c.current ++ names) ≡ Some
      (Shut kind) → IsUnread c a names kind
  unfolding unread
  unread-is names kind h held =
      let (e, in', same) = Contains-map (λ e. e.0) (filter (λ e. is_unread c a e.0) (below c)) names h in
      record { held = held; is = ap (is_unread c a) (sym same) ∙ (Contains-filter (λ e. is_unread c a e.0) (below c) e in').1 }

  is-unread : (names : Key) (kind : ErrorKind) → IsUnread c a names kind → Contains (unread c a) names
  unfolding unread
  is-unread names kind u = map-contains (λ e. e.0) (filter (λ e. is_unread c a e.0) (below c)) (names, Shut kind) names
      (filter-contains (λ e. is_unread c a e.0) (below c) (names, Shut kind) (held-below c names (Shut kind) u.held) u.is) refl

  given-right : (g : Gift) → Contains (gifts c a) g → IsRight c a g
  unfolding gifts
  given-right g = by_depth (nat_lt 0 a.depth) refl
    where
      by_depth : (b : Bool) → nat_lt 0 a.depth ≡ b → Contains (cond b (visit c a (levels c) []) []) g → IsRight c a g
      by_depth true some in' = visit-is_right c a w (levels c) (ltb-true 0 a.depth some) g in'
      by_depth false none in' = absurd (Contains-nil g in')

  right-given : (g : Gift) → (0 < a.depth) × Contains (visit c a (levels c) []) g → Contains (gifts c a) g
  unfolding gifts
  right-given g (some, in') = subst (λ gs. Contains gs g) (sym (cond-true (nat_lt 0 a.depth) (visit c a (levels c) [])
      [] (lt-ltb 0 a.depth some))) in'

pub finds_the_found : FindsTheFound
finds_the_found c a content names =
    let w = IsContent-from_test c content in (
      λ h. is-found c a w names (given-right c a w (Found names) h),
      λ h. right-given c a w (Found names)
          (found-given c a w names (found-is c a w names h)),
    )

pub reports_the_unread : ReportsTheUnread
reports_the_unread c a content names kind =
    let w = IsContent-from_test c content in (
      λ h. let u = given-right c a w (Unread names kind) h in (is-unread c a w names kind u, u.held),
      λ h. right-given c a w (Unread names kind) (unread-given c a w names kind (unread-is c a w names kind h.0 h.1)),
    )
