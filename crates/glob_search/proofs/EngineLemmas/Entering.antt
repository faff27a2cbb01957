-- What a directory gives once its entries are known.
use Rattle.std.proofs.Common.{◌≡◌, ◌≢◌, Bool, true, false, not, ◌&&◌, ⊎_elim, List, [], ◌∷◌, ◌++◌, flat_map, map}
use Rattle.std.proofs.Common.{Option, Some, None, Result, Ok, Err, refl, ap, sym, subst, ◌∙◌, arith}
use Rattle.std.specs.Prelude.{Contains, IfErr, IfOk, Vec, filter_map, option_map, reverse}
use Rattle.std.specs.List.{list_all, list_any}
use Rattle.std.specs.Str.{chars, IsUtf8}
use Rattle.std.proofs.lemmas.Bool.{and_parts, and_right, false_from_ne_true, not-false, not-true}
use Rattle.std.proofs.lemmas.List.{append_assoc, reverse-reverse}
use Rattle.std.proofs.lemmas.List.Elements.{All-contains}
use Rattle.std.proofs.lemmas.Option.{same_Some}
use Rattle.std.proofs.lemmas.List.Folds.{flat_map-map}
use Rattle.std.proofs.lemmas.Str.{IsUtf8-from_is_utf8}
use Rattle.glob_text.specs.Text.{Text}
use Rattle.glob_pattern.specs.Computing.Deciding.{is_match}
use Rattle.glob_pattern.specs.Grammar.Characters.{is_wildcard}
use Rattle.glob_tree.specs.Answers.{entries_of, names_of}
use Rattle.glob_tree.specs.Content.{Content, DirEntry, Key, children, is_dir, is_dir_at, kind_at, sorted_entries}
use Rattle.glob_tree.specs.declared.kind.Kind.{Kind}
use Rattle.glob_tree.specs.declared.tree.Entry.{Entry}
use Rattle.glob_tree.proofs.ContentLemmas.Contents.{IsContent, IsChild-list_result, listed_child}
use Rattle.glob_tree.proofs.ContentLemmas.Membership.{All-from_contains, Contains-cases, Contains-filter_map}
use Rattle.glob_tree.proofs.ContentLemmas.Membership.{Contains-nil, Contains-tail, filter_map-contains}
use Rattle.glob_tree.proofs.ContentLemmas.Membership.{list_all-contains}
use Rattle.glob_tree.proofs.ContentLemmas.Sorting.{Contains-sorted_entries, IsRising-sorted_entries, children_apart}
use Rattle.glob_tree.proofs.ContentLemmas.Sorting.{sorted_entries-contains}
use Rattle.glob_search.specs.Searching.{Aim, alive, beginnings_from, components, ends_recursive, takes}
use Rattle.glob_search.specs.Searching.{is_listed, is_named, is_shut}
use Rattle.glob_search.specs.Private.Engine.{AreEntries, EntriesGive, FitsSource}
use Rattle.glob_search.specs.States.{is_last}
use Rattle.glob_search.specs.Private.Listings.{AreLookedUp, IsEntry, IsListed, looked}
use Rattle.glob_search.specs.Private.Nodes.{AreBeginnings, AreNames, folded}
use Rattle.glob_search.specs.Private.Ways.{entries_left, met, visited}
use Rattle.glob_search.specs.declared.beginnings.Beginnings.{Beginnings}
use Rattle.glob_search.specs.declared.fault.SearchFault.{SearchFault}
use Rattle.glob_search.specs.declared.fault.SearchFault.TheVariants as fault
use Rattle.glob_search.specs.declared.frame.Source.{Source}
use Rattle.glob_search.specs.declared.frame.Source.TheVariants.{LookedUp, Listed, Named}
use Rattle.glob_search.proofs.BeginningLemmas.Keys.{literal-folded}
use Rattle.glob_search.proofs.EngineLemmas.Lasts.{map-reverse}
use Rattle.glob_search.proofs.EngineLemmas.LookedUp.{filter_map-reverse, rises-kept, some-give}
use Rattle.glob_search.proofs.EngineLemmas.Ordered.{names-back}
use Rattle.glob_search.proofs.EngineLemmas.Rising.{rises-from_pairs, rises-names}
use Rattle.glob_search.proofs.EngineLemmas.Visits.{visited-entries, visited-shut}
use Rattle.glob_search.proofs.OrderLemmas.Named.{only_named_give}
use Rattle.glob_search.proofs.OrderLemmas.Parts.{Contains-filter, Contains-flat_map, Contains-map, list_any-some, map-contains}

-- a beginning goes on by one of the components
begun-in : (front ts : List Text) (b : List Text × Text) → Contains (beginnings_from front ts) b → Contains ts b.1
begun-in front [] b h = absurd (Contains-nil b h)
begun-in front (t ∷ ts) b h = ⊎_elim
    (λ same. (0, omega arith, ap (λ d. d.1) same))
    (λ later. Contains-tail t ts b.1 (begun-in (front ++ t ∷ []) ts b later))
    (Contains-cases (front, t) (beginnings_from (front ++ t ∷ []) ts) b h)

alive-utf8 : {A : Type 0} (a : Aim) (begun : Beginnings A) → AreBeginnings a.options a.patterns begun → (names : Key)
    (b : List Text × Text) → Contains (alive a names) b → IsUtf8 b.1
alive-utf8 a begun begins names b in' =
    let (among, _) = Contains-filter (λ d. takes a.options d.0 names) (flat_map (beginnings_from []) (components a)) b in' in
    let (ts, one, begins') = Contains-flat_map (beginnings_from []) (components a) b among in
    All-contains IsUtf8 ts b.1 (begins.utf8 ts one) (begun-in [] ts b begins')

same-unfolded : (case : Bool) (n t : Text) → case ≡ true → folded case n ≡ folded case t → t ≡ n
same-unfolded case n t sensitive h = sym (ap (λ b. folded b n) (sym sensitive) ∙ h ∙ ap (λ b. folded b t) sensitive)

-- what entries give, by their names
pub entries-by_name : {A : Type 0} (c : Content) (a : Aim) (names : Key) (es : List (Entry A))
    → entries_left c a names es ≡ flat_map (met c a names) (reverse (names_of (entries_of es)))
entries-by_name {A} c a names es =
    let f : Entry A → DirEntry = λ x. (x.name, x.is_dir) in
    let n : DirEntry → Text = λ e. e.0 in
    sym (flat_map-map (λ e. met c a names e.0) f (reverse es))
    ∙ sym (flat_map-map (met c a names) n (map f (reverse es)))
    ∙ ap (flat_map (met c a names)) (names-back es)

module _ (c : Content) (w : IsContent c) (a : Aim) (names : Key) (there : is_dir_at c (c.current ++ names) ≡ true) where
  abbrev at : Key
  at = c.current ++ names

  abbrev inside : List Text
  inside = names_of (sorted_entries (children c at))

  inside-from : (n : Text) (kind : Kind) → kind_at c (c.current ++ (names ++ n ∷ [])) ≡ Some kind → Contains inside n
  inside-from n kind held =
      let child = listed_child c at n kind (ap (kind_at c) (append_assoc c.current names (n ∷ [])) ∙ held) in
      map-contains (λ e. e.0) (sorted_entries (children c at)) (n, is_dir kind) n (sorted_entries-contains
      (children c at) (n, is_dir kind) child) refl

  -- a directory that was listed
  pub gives-listed : {A : Type 0} (source : Source) (path : Text) (r : Result (Vec (Entry A) A) (SearchFault A))
      → source ≢ LookedUp → FitsSource a names source
      → IsListed c names source path r → EntriesGive c a names source path r
  gives-listed source path (Ok es) known fits l = record {
    each = l.each;
    whole = λ _. l.order;
    gives = entries-by_name c a names es.items
        ∙ ap (λ ns. flat_map (met c a names) (reverse ns)) l.order
        ∙ ap (flat_map (met c a names)) (reverse-reverse inside)
        ∙ sym (visited-entries c a w names there (ap (λ k. is_shut k && is_listed a names) l.kind));
  }
  gives-listed source path (Err (fault.Unread text e)) known fits l = (l.0, visited-shut c a w names _ l.1 (listed source known fits))
    where
      listed : (source : Source) → source ≢ LookedUp → FitsSource a names source → is_listed a names ≡ true
      listed LookedUp known fits = absurd (known refl)
      listed Listed known fits = fits
      listed Named known fits = fits
  gives-listed source path (Err (fault.UnreadRules text e)) known fits l = absurd l
  gives-listed source path (Err (fault.RefusedRules text refusals)) known fits l = absurd l
  gives-listed source path (Err fault.Limit) known fits l = tt
  gives-listed source path (Err fault.Memory) known fits l = tt

  looked-kind : (o : Option Kind) (n : Text) (e : DirEntry) → option_map (λ kind. (n, is_dir kind)) o ≡ Some e →
      (kind : Kind) × (o ≡ Some kind) × (n ≡ e.0) × (is_dir kind ≡ e.1)
  looked-kind None n e h = absurd (cc)
  looked-kind (Some kind) n e h =
      let same : (n, is_dir kind) ≡ e = same_Some (n, is_dir kind) e h in
      (kind, refl, ap (λ d. d.0) same, ap (λ d. d.1) same)

  -- a directory in which names were looked up
  module _ {A : Type 0} (b : Beginnings A) (begins : AreBeginnings a.options a.patterns b)
      (unlisted : is_listed a names ≡ false) (texts : List Text) (all : AreNames texts (alive a names)) where
    abbrev look : Text → Option DirEntry
    look n = looked c names n

    abbrev kept : List Text
    kept = names_of (filter_map look texts)

    kept-inside : (n : Text) → Contains kept n → Contains inside n
    kept-inside n in' =
        let (e, there', same) = Contains-map (λ e. e.0) (filter_map look texts) n in' in
        let (m, _, gives) = Contains-filter_map look texts e there' in
        let (kind, held, named, _) = looked-kind (kind_at c (c.current ++ (names ++ m ∷ []))) m e gives in
        subst (Contains inside) (named ∙ same) (inside-from m kind held)

    others-give : (n : Text) → Contains inside n → (Contains kept n → ⊥) → met c a names n ≡ []
    unfolding met
    others-give n in' out = only_named_give c a names n (visited c a) (is_dir_at c (c.current ++ (names ++ n ∷ []))) unlisted
        (false_from_ne_true (list_any (λ d. is_match a.options (chars d.1) (chars n)) (alive a names)) (λ h.
        let (d, living, matches) = list_any-some (λ d. is_match a.options (chars d.1) (chars n)) (alive a names) h in
        let named = list_all-contains (is_named a.options) (alive a names) d (not-false (list_all (is_named a.options)
        (alive a names)) unlisted) living in
        let (outer, plain) = and_parts (a.options.case_sensitive && not (ends_recursive d.0)) (not (list_any is_wildcard d.1)) named in
        let (sensitive, _) = and_parts a.options.case_sensitive (not (ends_recursive d.0)) outer in
        let (e, listed, is) = Contains-map (λ e. e.0) (sorted_entries (children c at)) n in' in
        let child = IsChild-list_result c w at e (Contains-sorted_entries (children c at) e listed) in
        let utf8 : IsUtf8 n = subst IsUtf8 is (IsUtf8-from_is_utf8 e.0 child.utf8) in
        let same : d.1 ≡ n = same-unfolded a.options.case_sensitive n d.1 sensitive
        (literal-folded a.options d.1 n (alive-utf8 a b begins names d living) utf8 (not-true (list_any is_wildcard d.1) plain) matches) in
        let held : kind_at c (c.current ++ (names ++ n ∷ [])) ≡ Some child.kind =
        ap (kind_at c) (sym (append_assoc c.current names (n ∷ [])) ∙ ap (λ m. at ++ m ∷ []) (sym is)) ∙ child.held in
        let f : Option Kind → Option DirEntry = λ o. option_map (λ kind. (n, is_dir kind)) o in
        let seen : look n ≡ Some (n, is_dir child.kind) = ap f held in
        out (map-contains (λ l. l.0) (filter_map look texts) (n, is_dir child.kind) n
        (filter_map-contains look texts n (n, is_dir child.kind) (subst (Contains texts) same (all.each d living)) seen) refl)))

    kept-gives : flat_map (met c a names) kept ≡ visited c a names
    kept-gives =
        some-give (met c a names) kept inside
        (rises-kept look (λ n e h. sym (looked-kind (kind_at c (c.current ++ (names ++ n ∷ []))) n e h).2) texts
        (rises-from_pairs texts all.ascend))
        (rises-names (sorted_entries (children c at)) (IsRising-sorted_entries (children c at) (children_apart c w at)))
        kept-inside others-give
        ∙ sym (visited-entries c a w names there (and_right (is_shut (kind_at c at)) (is_listed a names) unlisted))

    pub gives-looked_up : (es : List (Entry A)) → entries_of es ≡ filter_map look (reverse texts) → AreEntries c a names LookedUp es
    gives-looked_up es seen = record {
      each = All-from_contains (IsEntry c names LookedUp) es (λ e in'.
          let f : Entry A → DirEntry = λ x. (x.name, x.is_dir) in
          let (n, _, gives) = Contains-filter_map look (reverse texts) (f e) (subst (λ ls. Contains ls (f e)) seen
          (map-contains f es e (f e) in' refl)) in
          let (kind, held, named, flag) = looked-kind (kind_at c (c.current ++ (names ++ n ∷ []))) n (f e) gives in
          record {
            kind = kind;
            held = subst (λ m. kind_at c (c.current ++ (names ++ m ∷ [])) ≡ Some kind) named held;
            known = λ d same. same_Some d e.is_dir (sym same) ∙ sym flag;
          });
      whole = λ other. absurd (other refl);
      gives = entries-by_name c a names es
          ∙ ap (λ ls. flat_map (met c a names) (reverse (names_of ls))) seen
          ∙ ap (flat_map (met c a names)) (sym (map-reverse (λ e. e.0) (filter_map look (reverse texts))) ∙ ap names_of
          (filter_map-reverse look texts))
          ∙ kept-gives;
    }

pub found-looked_up : {A : Type 0} (c : Content) → IsContent c → (a : Aim) (names : Key) → is_dir_at c
    (c.current ++ names) ≡ true → (b : Beginnings A) → AreBeginnings a.options a.patterns b
    → is_listed a names ≡ false → (path : Text) (r : Result (Vec (Entry A) A) (SearchFault A)) → IfOk r
    (λ es. AreLookedUp c a names (entries_of es.items)) → IfErr r (λ f. is_last f ≡ true)
    → EntriesGive c a names LookedUp path r
found-looked_up c w a names there b begins unlisted path (Ok es) found other = gives-looked_up c w a names there b
    begins unlisted found.texts found.all es.items found.seen
found-looked_up c w a names there b begins unlisted path (Err (fault.Unread text e)) found other = absurd (cc)
found-looked_up c w a names there b begins unlisted path (Err (fault.UnreadRules text e)) found other = absurd (cc)
found-looked_up c w a names there b begins unlisted path (Err (fault.RefusedRules text refusals)) found other = absurd (cc)
found-looked_up c w a names there b begins unlisted path (Err fault.Limit) found other = tt
found-looked_up c w a names there b begins unlisted path (Err fault.Memory) found other = tt
