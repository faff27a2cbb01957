-- What a directory gives depends only on its names: the levels that are left do not matter.
use Rattle.std.proofs.Common.{◌≡◌, ℕ, suc, ◌-◌, Bool, true, false, cond, ◌&&◌, List, [], ◌∷◌, ◌++◌}
use Rattle.std.proofs.Common.{length, flat_map, Some, refl, ap, ap₂, sym, ◌∙◌, arith}
use Rattle.std.specs.Prelude.{Contains, nat_lt}
use Rattle.std.specs.declared.io.ErrorKind.{ErrorKind}
use Rattle.std.proofs.lemmas.Bool.{cond-true}
use Rattle.std.proofs.lemmas.List.{append_assoc, length-append}
use Rattle.std.proofs.lemmas.List.Folds.{flat_map-map}
use Rattle.glob_text.specs.Text.{Text}
use Rattle.glob_tree.specs.Answers.{names_of}
use Rattle.glob_tree.specs.Content.{Content, DirEntry, Key, children, is_dir_at, kind_at, sorted_entries}
use Rattle.glob_tree.specs.declared.kind.Kind.TheVariants.{Shut}
use Rattle.glob_tree.proofs.ContentLemmas.Contents.{IsContent, IsChild, IsChild-list_result}
use Rattle.glob_tree.proofs.ContentLemmas.Directories.{directory_kind, is_dir_at-kind}
use Rattle.glob_tree.proofs.ContentLemmas.Membership.{Contains-head, Contains-tail}
use Rattle.glob_tree.proofs.ContentLemmas.Sorting.{Contains-sorted_entries}
use Rattle.glob_search.specs.Searching.{Aim, goes_on, is_closed, is_ignored, is_listed}
use Rattle.glob_search.specs.Visiting.{Gift, Unread, found_at, gifts, inside, levels, meet, visit}
use Rattle.glob_search.specs.Private.Ways.{met, visited}
use Rattle.glob_search.proofs.OrderLemmas.Ways.{inside-entries, within-levels}

-- each gives the same
pub flat_map-same : {X Y : Type 0} (f g : X → List Y) (xs : List X) → ((x : X) → Contains xs x → f x ≡ g x) → flat_map f xs ≡ flat_map g xs
flat_map-same f g [] same = refl
flat_map-same f g (x ∷ xs) same = ap₂ (λ ys zs. ys ++ zs) (same x (Contains-head x xs)) (flat_map-same f g xs
    (λ y in'. same y (Contains-tail x xs y in')))

module _ (c : Content) (a : Aim) where
  abbrev at : Key → Key
  at names = c.current ++ names

  -- an entry gives the same if its directory gives the same
  meet-same : (enter other : Key → List Gift) (names : Key) (d : Bool) → enter names ≡ other names → meet c a enter
      names d ≡ meet c a other names d
  meet-same enter other names d same = ap (λ gs. cond (is_ignored a names d) [] (found_at c a names (kind_at c (c.current ++ names))
      ++ cond (d && nat_lt (length names) a.depth && goes_on a names) gs [])) same

  one-level : (names : Key) (n : Text) (l : ℕ) → levels c - length names ≡ suc l → visit c a l (names ++ n ∷ []) ≡
      visited c a (names ++ n ∷ [])
  unfolding visited
  one-level names n l is =
      let fuel : l ≡ levels c - length (names ++ n ∷ []) = omega (arith, is, length-append names (n ∷ [])) in
      ap (λ k. visit c a k (names ++ n ∷ [])) fuel

  met-entry : (names : Key) (e : DirEntry) (l : ℕ) → IsChild c (at names) e → levels c - length names ≡ suc l
      → meet c a (visit c a l) (names ++ e.0 ∷ []) e.1 ≡ met c a names e.0
  unfolding met
  met-entry names e l child is =
      let further : at names ++ e.0 ∷ [] ≡ at (names ++ e.0 ∷ []) = append_assoc c.current names (e.0 ∷ []) in
      let kind : e.1 ≡ is_dir_at c (at (names ++ e.0 ∷ [])) =
      sym child.is_same ∙ sym (is_dir_at-kind c (at names ++ e.0 ∷ []) child.kind child.held) ∙ ap (is_dir_at c) further in
      meet-same (visit c a l) (visited c a) (names ++ e.0 ∷ []) e.1 (one-level names e.0 l is)
      ∙ ap (meet c a (visited c a) (names ++ e.0 ∷ [])) kind

  -- if the content has a directory, there are levels left
  some-level : (names : Key) → is_dir_at c (at names) ≡ true → (l : ℕ) × (levels c - length names ≡ suc l)
  some-level names there =
      let (kind, held) = directory_kind c (at names) there in
      (levels c - length names - 1, omega (arith, within-levels c c.current names kind held))

  entries-met : IsContent c → (names : Key) (l : ℕ) → levels c - length names ≡ suc l
      → flat_map (λ e. meet c a (visit c a l) (names ++ e.0 ∷ []) e.1) (sorted_entries (children c (at names)))
      ≡ flat_map (met c a names) (names_of (sorted_entries (children c (at names))))
  entries-met w names l is =
      flat_map-same (λ e. meet c a (visit c a l) (names ++ e.0 ∷ []) e.1) (λ e. met c a names e.0) (sorted_entries (children c (at names)))
      (λ e in'. met-entry names e l (IsChild-list_result c w (at names) e (Contains-sorted_entries (children c (at names)) e in')) is)
      ∙ sym (flat_map-map (met c a names) (λ e. e.0) (sorted_entries (children c (at names))))

  visited-inside : IsContent c → (names : Key) → is_dir_at c (at names) ≡ true
      → visited c a names ≡ inside a names (kind_at c (at names)) (flat_map (met c a names)
      (names_of (sorted_entries (children c (at names)))))
  unfolding visited visit
  visited-inside w names there =
      let (l, is) = some-level names there in
      ap (λ k. visit c a k names) is ∙ ap (inside a names (kind_at c (at names))) (entries-met w names l is)

  -- a directory that is not closed gives what its entries give
  pub visited-entries : IsContent c → (names : Key) → is_dir_at c (at names) ≡ true → is_closed c a names ≡ false
      → visited c a names ≡ flat_map (met c a names) (names_of (sorted_entries (children c (at names))))
  visited-entries w names there open' =
      let (kind, held) = directory_kind c (at names) there in
      let entries = flat_map (met c a names) (names_of (sorted_entries (children c (at names)))) in
      visited-inside w names there
      ∙ ap (λ o. inside a names o entries) held
      ∙ inside-entries c a names kind entries held (sym (is_dir_at-kind c (at names) kind held) ∙ there) open'

  -- a closed directory gives its fault
  pub visited-shut : IsContent c → (names : Key) (kind : ErrorKind) → kind_at c (at names) ≡ Some (Shut kind) → is_listed a names ≡ true
      → visited c a names ≡ Unread names kind ∷ []
  visited-shut w names kind held listed =
      let entries = flat_map (met c a names) (names_of (sorted_entries (children c (at names)))) in
      visited-inside w names (is_dir_at-kind c (at names) (Shut kind) held)
      ∙ ap (λ o. inside a names o entries) held
      ∙ cond-true (is_listed a names) (Unread names kind ∷ []) entries listed

  -- all gifts
  pub gifts-visited : gifts c a ≡ cond (nat_lt 0 a.depth) (visited c a []) []
  unfolding gifts visited
  gifts-visited =
      let fuel : levels c ≡ levels c - 0 = omega arith in
      ap (λ k. cond (nat_lt 0 a.depth) (visit c a k []) []) fuel
