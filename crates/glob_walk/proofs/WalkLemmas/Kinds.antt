-- Listings with the kinds of the entries, and of names only.
use Rattle.std.proofs.Common.{◌≡◌, ℕ, suc, ◌<◌, Bool, true, false, cond, not, ◌||◌, List, [], ◌∷◌, ◌++◌, length, drop}
use Rattle.std.proofs.Common.{get_or, replicate, refl, ap, sym, subst, ◌∙◌}
use Rattle.std.specs.Prelude.{flat_map, IsPermutation}
use Rattle.std.specs.List.Sorted.{IsSortedByKey}
use Rattle.std.specs.Cmp.Lexicographic.{slice_cmp}
use Rattle.std.specs.Ordering.{nat_cmp}
use Rattle.std.specs.Path.{cur_dir, parent_dir}
use Rattle.std.proofs.lemmas.Bool.{both_ways}
use Rattle.std.proofs.lemmas.List.{drop_more}
use Rattle.glob_text.specs.Text.{Text}
use Rattle.glob_tree.specs.Answers.{entries_of, names_of, IsEntriesAnswer, IsNamesAnswer}
use Rattle.glob_tree.specs.Content.{Content, DirEntry, list_result, look_result, sorted_entries}
use Rattle.glob_tree.specs.Looks.{is_directory}
use Rattle.glob_tree.specs.Paths.{child}
use Rattle.glob_tree.specs.declared.tree.Entry.{Entry}
use Rattle.glob_tree.proofs.ContentLemmas.Contents.{IsContent}
use Rattle.glob_walk.specs.Walks.{enter, Mark, Give, Found}
use Rattle.glob_walk.specs.Private.Turns.{works}
use Rattle.glob_walk.specs.declared.plan.Plan.{Plan}
use Rattle.glob_walk.specs.declared.frame.Cursor.TheVariants.{Parent, At}
use Rattle.glob_walk.specs.Private.Forms.{takes_name}
use Rattle.glob_walk.specs.Private.Frames.{entry_marks, entries_marks, first_of, first_part, special_marks, cursor_marks, first_cursor}
use Rattle.glob_walk.specs.Private.Tasks.{is_dotted, IgnoresKinds, IsListedFor}
use Rattle.glob_walk.proofs.WalkLemmas.Entering.{enter-end}
use Rattle.glob_walk.proofs.WalkLemmas.Listings.{IsInOrder, in_order, names_listed}
use Rattle.glob_walk.proofs.WalkLemmas.Opening.{Opens, by_listing, opened_entries}
use Rattle.std.proofs.lemmas.List.{append-nil}

names_length : (es : List DirEntry) → length (names_of es) ≡ length es
names_length [] = refl
names_length (e ∷ es) = ap suc (names_length es)

-- the last component, matched against names, if files are wanted too
module _ {A : Type 0} (c : Content) (plan : Plan A) (component : ℕ) (path : Text) (within : component < length
    plan.components.items) (ignores : IgnoresKinds plan component false) where
  t : Text
  t = get_or plan.components.items component []

  alone : drop component plan.components.items ≡ t ∷ []
  unfolding t
  alone = drop_more plan.components.items component [] within ∙ ap (λ ts. get_or plan.components.items component [] ∷ ts) ignores.last

  -- what follows at a name
  name_marks : Text → List Mark
  name_marks name = cond (takes_name plan.options t name) (Give (Found (child path name)) ∷ []) []

  given : (e : DirEntry) → enter c plan.options plan.directories [] (child path e.0) e.1 ≡ Give (Found (child path e.0)) ∷ []
  given e = enter-end c plan.options plan.directories (child path e.0) e.1
      ∙ ap (λ b. cond (not b || e.1) (Give (Found (child path e.0)) ∷ []) []) ignores.any

  entry_same : (e : DirEntry) → entry_marks c plan false component path e ≡ name_marks e.0
  unfolding name_marks
  entry_same e =
      append-nil (first_part c plan false component path e)
      ∙ ap (λ ts. first_of c plan.options plan.directories false ts path e) alone
      ∙ ap (λ ms. cond (takes_name plan.options t e.0) ms []) (given e)

  entries_same : (es : List DirEntry) → entries_marks c plan false component path es ≡ flat_map name_marks (names_of es)
  entries_same [] = refl
  entries_same (e ∷ es) = λ i. entry_same e i ++ entries_same es i

  cursor_same : (es fs : List DirEntry) → names_of es ≡ names_of fs
      → cursor_marks c plan false component path es (first_cursor (drop component plan.components.items)) ≡
      cursor_marks c plan false component path fs (first_cursor (drop component plan.components.items))
  cursor_same es fs same = by_test (is_dotted (drop component plan.components.items))
    where
      marks : entries_marks c plan false component path es ≡ entries_marks c plan false component path fs
      marks = entries_same es ∙ ap (flat_map name_marks) same ∙ sym (entries_same fs)

      by_test : (b : Bool) → cursor_marks c plan false component path es (cond b Parent (At 0)) ≡ cursor_marks c plan
          false component path fs (cond b Parent (At 0))
      by_test true = ap (λ ms. special_marks c plan component path parent_dir ++ (special_marks c plan component path cur_dir ++ ms)) marks
      by_test false = marks

module _ {A : Type 0} (c : Content) (w : IsContent c) (plan : Plan A) (component : ℕ) (path : Text) (d : is_directory
    (look_result c path) ≡ true) (es sorted : List (Entry A)) (moved : IsPermutation es sorted)
    (up : IsSortedByKey (λ e. e.name) (slice_cmp nat_cmp) sorted) where
  -- the names are enough
  opened_names : (l : IsListedFor plan component false false) → IsNamesAnswer (list_result c path) (entries_of es)
      → Opens c w plan false component path l.opens d (entries_of sorted)
  opened_names l answer = by_listing c w plan false component path l.opens d
      (λ xs is.
      let names = names_listed c w path xs is es sorted (subst (λ a. IsNamesAnswer a (entries_of es)) is answer) moved up in
      let same_length : length (sorted_entries xs) ≡ length (entries_of sorted) = sym
      (names_length (sorted_entries xs)) ∙ ap length (sym names) ∙ names_length (entries_of sorted) in
      opened_entries c w plan false component path l.opens d (sorted_entries xs)
      (subst (λ a. IsInOrder a (sorted_entries xs)) (sym is) refl)
      ∙ ap (λ n. works (replicate (suc n) path) ++ cursor_marks c plan false component path (sorted_entries xs)
      (first_cursor (drop component plan.components.items))) same_length
      ∙ ap (λ ms. works (replicate (suc (length (entries_of sorted))) path) ++ ms) (cursor_same c plan component path
      l.within (l.names refl) (sorted_entries xs) (entries_of sorted) (sym names)))
      (λ kind is. absurd (subst (λ a. IsNamesAnswer a (entries_of es)) is answer))

  pub opened_answer : (recursive kinds : Bool) (l : IsListedFor plan component recursive kinds) → IsEntriesAnswer kinds
      (list_result c path) (entries_of es)
      → Opens c w plan recursive component path l.opens d (entries_of sorted)
  opened_answer recursive true l answer = opened_entries c w plan recursive component path l.opens d
      (entries_of sorted) (in_order c w path es sorted answer moved up)
  opened_answer false false l answer = opened_names l answer
  opened_answer true false l answer = absurd (both_ways true (l.names refl).single refl)
