-- What is read from nodes by number.
use Rattle.std.proofs.Common.{◌≡◌, ℕ, zero, suc, ◌+◌, ◌-◌, ◌<◌, ◌≤◌, List, [], ◌∷◌, ◌++◌, length, Option, Some, None}
use Rattle.std.proofs.Common.{refl, ap, sym, subst, ◌∙◌, arith, Bor}
use Rattle.std.specs.Prelude.{MatchOption, slice_index_or, position, Contains, Bool, true, false, cond, is_some, nat_lt}
use Rattle.std.specs.Prelude.{◌==◌, bytes_eq, filter_map, option_map, option_and_then}
use Rattle.std.specs.List.{HoldsAt, position_or_len, cons_option}
use Rattle.std.proofs.lemmas.List.{get_or_default, length-append, same_from_push}
use Rattle.std.proofs.lemmas.List.Sums.{fails_before_first}
use Rattle.std.proofs.lemmas.List.Quantifiers.{position-Some}
use Rattle.std.proofs.lemmas.List.Elements.{Contains-get_or}
use Rattle.std.proofs.lemmas.Option.{cond_some, none-some}
use Rattle.std.proofs.lemmas.Bool.{ltb-true, ltb-false, eqb-true, eq-eqb, and_from, and_parts, both_ways}
use Rattle.std.proofs.lemmas.Slice.Eq.{bytes_eq-Decides}
use Rattle.glob_text.specs.Text.{Text}
use Rattle.glob_tree.specs.Content.{Key, DirEntry, kind_at, child_key, is_content, is_dir, child_entry, children, only_name}
use Rattle.glob_tree.specs.Private.Nodes.{root_entry, entry_numbered, key_numbered, kind_numbered, entry_of}
use Rattle.glob_tree.specs.Private.Nodes.{entries_of_nodes, are_after_parents, rooted_content}
use Rattle.glob_tree.specs.Private.Numbers.{IsNode, is_named, listing_entry}
use Rattle.glob_tree.specs.declared.kind.Kind.{Kind}
use Rattle.glob_tree.specs.declared.nodes.Node.{Node}
use Rattle.glob_tree.proofs.ContentLemmas.Membership.{filter_map_by_place}
use Rattle.glob_tree.proofs.ContentLemmas.Contents.{IsContent, IsContent-from_test, kind_at-entry, contains_kind_at}
use Rattle.glob_tree.proofs.ContentLemmas.Contents.{child_entry_is, names_past-append}
use Rattle.glob_tree.specs.Paths.{is_proper}
use Rattle.std.specs.Str.{is_utf8}
use Rattle.glob_tree.proofs.ContentLemmas.Directories.{is_dir_at-kind}
use Rattle.glob_tree.proofs.ContentLemmas.Extending.{is_content-extended}
use Rattle.glob_tree.proofs.MemoryLemmas.Nodes.{entries_after-push, are_after_parents-push, AreNodes, length-entries}
use Rattle.glob_tree.proofs.MemoryLemmas.Nodes.{root_is, node_is, parent_before, parent_is_before, not_zero, one_number}

-- an element of the list, if the index is inside it
some_of : {X : Type 0} (xs : List X) (i : ℕ) → i < length xs → X
some_of [] i h = absurd (omega (arith, h))
some_of (x ∷ xs) i h = x

place_within : {X : Type 0} (p : X → Bool) (xs : List X) (i : ℕ) → position p xs ≡ Some i → i < length xs
place_within p xs i h =
    let (inside, is) = cond_some (nat_lt (position_or_len p xs) (length xs)) (position_or_len p xs) i h in
    omega (arith, ltb-true (position_or_len p xs) (length xs) inside, is)

none_within : {X : Type 0} (p : X → Bool) (xs : List X) (k : ℕ) (d : X) → position p xs ≡ None → k < length xs → p
    (slice_index_or xs k d) ≡ false
none_within p xs k d h within = by_test (nat_lt (position_or_len p xs) (length xs)) refl h
  where
    by_test : (b : Bool) → nat_lt (position_or_len p xs) (length xs) ≡ b → cond b (Some (position_or_len p xs)) None ≡
        None → p (slice_index_or xs k d) ≡ false
    by_test true e h = absurd (none-some (position_or_len p xs) (sym h))
    by_test false e h = fails_before_first p xs k d (omega (arith, ltb-false (position_or_len p xs) (length xs) e, within))

-- the root is not an entry of any directory
no_child : (k : Key) → child_entry k root_entry ≡ None
no_child [] = refl
no_child (n ∷ k) = refl

module _ {A : Type 0} (nodes : List (Node A)) (entries : List (Key × Kind)) (are : AreNodes nodes entries) where
  -- what `get` returns for the nodes
  pub IsNode-from_get : (xs : List (Node A)) → xs ≡ nodes → (number : ℕ) → (number ≡ 0 → ⊥) → number < length entries →
      (r : Option (Bor (Node A)))
      → MatchOption r (length xs ≤ number - 1) (λ x. (number - 1 < length xs) × HoldsAt (λ y. x.now ≡ y) xs
      (number - 1)) → IsNode entries number r
  IsNode-from_get xs same number some within None h = absurd (omega (
    arith,
    h,
    ap length same,
    length-entries nodes
        entries are,
    within,
    not_zero number some,
  ))
  IsNode-from_get xs same number some within (Some x) h =
      let read : x.now ≡ slice_index_or nodes (number - 1) x.now = h.1 x.now ∙ ap (λ ys. slice_index_or ys (number - 1) x.now) same in
      let before = parent_is_before nodes entries are number x.now some within read in
      (node_is nodes entries are number x.now some within read, omega (arith, before, within))

  -- the entries make a well-formed content
  pub entries_are : is_content (rooted_content entries) ≡ true
  entries_are = ap (λ es. is_content (rooted_content es)) (sym are.is) ∙ are.content

  pub entries_content : IsContent (rooted_content entries)
  entries_content = IsContent-from_test (rooted_content entries) entries_are

  -- the node that was read by an index
  at_place : (i : ℕ) (d : Node A) → i < length nodes → entry_numbered entries (i + 1) ≡ entry_of entries (slice_index_or nodes i d)
  at_place i d within =
      let node = slice_index_or nodes i d in
      let same : slice_index_or nodes i d ≡ slice_index_or nodes (i + 1 - 1) node = get_or_default nodes i d node
      within ∙ ap (λ k. slice_index_or nodes k node) (i_is i) in
      node_is nodes entries are (i + 1) node (λ z. omega (arith, z)) (omega (arith, within, length-entries nodes entries are)) same
    where
      i_is : (i : ℕ) → i ≡ i + 1 - 1
      i_is i = omega arith

  -- a node with this name in the directory is at the key of that name
  pub child_some : (directory : ℕ) (name : Text) (i : ℕ) → position (is_named directory name) nodes ≡ Some i
      → (Some (key_numbered entries (i + 1)) ≡ child_key (rooted_content entries) (key_numbered entries directory)
      name) × (i + 1 < length entries)
  child_some directory name i h =
      let within = place_within (is_named directory name) nodes i h in
      let node = slice_index_or nodes i (some_of nodes i within) in
      let passes = (position-Some (is_named directory name) nodes i (some_of nodes i within) h).1 in
      let both = and_parts (node.parent == directory) (bytes_eq node.name name) passes in
      let parent = eqb-true node.parent directory both.0 in
      let called = (bytes_eq-Decides node.name name).0 both.1 in
      let k = (key_numbered entries directory) in
      let is : entry_numbered entries (i + 1) ≡ (k ++ name ∷ [], node.kind) =
      at_place i (some_of nodes i within) within ∙ (λ j. ((key_numbered entries (parent j)) ++ called j ∷ [], node.kind)) in
      let long : i + 1 < length entries = omega (arith, within, length-entries nodes entries are) in
      let held_there : kind_at (rooted_content entries) (k ++ name ∷ []) ≡ Some node.kind =
      kind_at-entry (rooted_content entries) entries_content (k ++ name ∷ [], node.kind) (subst (Contains entries) is
      (Contains-get_or entries (i + 1) root_entry long)) in
      (ap (λ e. Some e.0) is ∙ sym (ap (λ o. cond (is_some o) (Some (k ++ name ∷ [])) None) held_there), long)

  -- if no node has this name in the directory, nothing is at that key
  pub child_none : (directory : ℕ) (name : Text) → directory < length entries → position (is_named directory name) nodes ≡ None
      → child_key (rooted_content entries) (key_numbered entries directory) name ≡ None
  child_none directory name within h = by_kind (kind_at (rooted_content entries) (k ++ name ∷ [])) refl
    where
      k : Key
      k = (key_numbered entries directory)

      at_number : (j : ℕ) (kind : Kind) → j < length entries → slice_index_or entries j (k ++ name ∷ [], kind) ≡ (k ++ name ∷ [], kind) → ⊥
      at_number zero kind long is =
          let root : root_entry ≡ (k ++ name ∷ [], kind) = sym (root_is nodes entries are) ∙ get_or_default entries 0
          root_entry (k ++ name ∷ [], kind) long ∙ is in
          omega (arith, ap (λ e. length e.0) root, length-append k (name ∷ []))
      at_number (suc i) kind long is =
          let inside : i < length nodes = omega (arith, long, length-entries nodes entries are) in
          let d = some_of nodes i inside in
          let node = slice_index_or nodes i d in
          let number : i + 1 ≡ suc i = omega arith in
          let there : entry_of entries node ≡ (k ++ name ∷ [], kind) =
          sym (at_place i d inside) ∙ ap (entry_numbered entries) number ∙ get_or_default entries (suc i) root_entry
          (k ++ name ∷ [], kind) long ∙ is in
          let (keys, names) = same_from_push (key_numbered entries node.parent) k node.name name (ap (λ e. e.0) there) in
          let before = parent_before 1 nodes i d are.after inside in
          let parent = one_number entries node.parent directory root_entry entries_content.distinct
          (omega (arith, before, long)) within keys in
          both_ways (is_named directory name node) (none_within (is_named directory name) nodes i d h inside)
          (and_from (node.parent == directory) (bytes_eq node.name name) (eq-eqb node.parent directory parent)
          ((bytes_eq-Decides node.name name).1 names))

      by_kind : (o : Option Kind) → kind_at (rooted_content entries) (k ++ name ∷ []) ≡ o → child_key (rooted_content entries) k name ≡ None
      by_kind None e = rw e refl
      by_kind (Some kind) e = let (j, long, is) = contains_kind_at (rooted_content entries) (k ++ name ∷ []) kind e in
          absurd (at_number j kind long is)

  -- what is at the key of a number
  pub kind_at-numbered : (number : ℕ) → number < length entries → kind_at (rooted_content entries)
      (key_numbered entries number) ≡ Some (kind_numbered entries number)
  kind_at-numbered number within = kind_at-entry (rooted_content entries) entries_content
      (entry_numbered entries number) (Contains-get_or entries number root_entry within)

  -- what a listing returns for a node's entry
  listed_node : (directory : ℕ) → directory < length entries → (i : ℕ) (d : Node A) → i < length nodes
      → child_entry (key_numbered entries directory) (entry_of entries (slice_index_or nodes i d)) ≡ listing_entry
      directory (slice_index_or nodes i d)
  listed_node directory within i d inside = by_test (node.parent == directory) refl
    where
      node : Node A
      node = slice_index_or nodes i d

      k : Key
      k = (key_numbered entries directory)

      none : (o : Option DirEntry) → child_entry k (entry_of entries node) ≡ o → (node.parent == directory) ≡ false → o ≡ None
      none None e apart = refl
      none (Some l) e apart =
          let (there, _) = child_entry_is k (entry_of entries node) l e in
          let (keys, _) = same_from_push (key_numbered entries node.parent) k node.name l.0 there in
          let before = parent_before 1 nodes i d are.after inside in
          let parent = one_number entries node.parent directory root_entry entries_content.distinct
          (omega (arith, before, inside, length-entries nodes entries are)) within keys in
          absurd (both_ways (node.parent == directory) apart (eq-eqb node.parent directory parent))

      by_test : (b : Bool) → (node.parent == directory) ≡ b → child_entry k (entry_of entries node) ≡
          (cond b (Some (node.name, is_dir node.kind)) None)
      by_test true e =
          let parent = eqb-true node.parent directory e in
          ap (λ n. child_entry k ((key_numbered entries n) ++ node.name ∷ [], node.kind)) parent
          ∙ ap (λ o. option_map (λ name. (name, is_dir node.kind)) (option_and_then only_name o)) (names_past-append k (node.name ∷ []))
      by_test false e = none (child_entry k (entry_of entries node)) refl e

  -- listing a directory gives the entries of its nodes
  pub children_numbered : (directory : ℕ) → directory < length entries → children (rooted_content entries)
      (key_numbered entries directory) ≡ filter_map (listing_entry directory) nodes
  unfolding children
  children_numbered directory within = by_entries entries refl
    where
      k : Key
      k = (key_numbered entries directory)

      no_root : child_entry k root_entry ≡ None
      no_root = no_child k

      by_entries : (es : List (Key × Kind)) → entries ≡ es → filter_map (child_entry k) entries ≡ filter_map (listing_entry directory) nodes
      by_entries [] e = absurd (omega (arith, ap length e, length-entries nodes entries are))
      by_entries (e₀ ∷ es) e =
          let root : e₀ ≡ root_entry = ap (λ xs. entry_numbered xs 0) (sym e) ∙ root_is nodes entries are in
          ap (filter_map (child_entry k)) e
          ∙ ap (λ o. cons_option o (filter_map (child_entry k) es)) (ap (child_entry k) root ∙ no_root)
          ∙ filter_map_by_place (child_entry k) (listing_entry directory) es nodes
          (omega (arith, ap length e, length-entries nodes entries are)) (λ i d f h.
          let inside : i < length nodes = omega (arith, h, ap length e, length-entries nodes entries are) in
          let number : i + 1 ≡ suc i = omega arith in
          ap (child_entry k) (get_or_default es i d root_entry h ∙ ap (λ xs. slice_index_or xs (suc i) root_entry)
          (sym e) ∙ ap (entry_numbered entries) (sym number) ∙ at_place i f inside)
          ∙ listed_node directory within i f inside)

  module _ (node : Node A) (inside : node.parent < length entries) (directory : is_dir
      (kind_numbered entries node.parent) ≡ true) (utf8 : is_utf8 node.name ≡ true)
      (proper : is_proper node.name ≡ true) (free : kind_at (rooted_content entries)
      ((key_numbered entries node.parent) ++ node.name ∷ []) ≡ None) where
    -- the entries, with one more node
    pub held_more : entries_of_nodes (nodes ++ node ∷ []) ≡ entries ++ entry_of entries node ∷ []
    held_more = entries_after-push (root_entry ∷ []) nodes node ∙ ap (λ es. es ++ entry_of es node ∷ []) are.is

    pub after_more : are_after_parents 1 (nodes ++ node ∷ []) ≡ true
    after_more = are_after_parents-push 1 nodes node are.after (omega (arith, inside, length-entries nodes entries are))

    pub content_more : is_content (rooted_content (entries_of_nodes (nodes ++ node ∷ []))) ≡ true
    content_more =
        let c = rooted_content entries in
        let k = (key_numbered entries node.parent) in
        let d = is_dir_at-kind c k (kind_numbered entries node.parent) (kind_at-numbered node.parent inside) ∙ directory in
        ap (λ es. is_content (rooted_content es)) held_more
        ∙ is_content-extended c entries_content k node.name node.kind d utf8 proper free
