-- The entries that nodes represent, by number.
use Rattle.std.proofs.Common.{◌≡◌, ℕ, zero, suc, ◌+◌, ◌-◌, ◌<◌, true, List, [], ◌∷◌, ◌++◌, length, refl, ap, sym, ◌∙◌, arith}
use Rattle.std.specs.Prelude.{slice_index_or, nat_le, not}
use Rattle.std.specs.List.{list_any}
use Rattle.std.proofs.lemmas.Bool.{and_parts, and_from, leb-true, le-leb, not-true, both_ways}
use Rattle.std.proofs.lemmas.List.{get_or_append_left, get_or_at, length_push}
use Rattle.std.proofs.lemmas.List.Elements.{Contains-get_or}
use Rattle.glob_tree.specs.Content.{Key, same_key, are_distinct, is_content, kind_at}
use Rattle.glob_tree.specs.Private.Nodes.{root_entry, entry_numbered, entry_of, entries_after, entries_of_nodes}
use Rattle.glob_tree.specs.Private.Nodes.{are_after_parents, rooted_content}
use Rattle.glob_tree.specs.declared.kind.Kind.{Kind}
use Rattle.glob_tree.specs.declared.nodes.Node.{Node}
use Rattle.glob_tree.proofs.ContentLemmas.Membership.{list_any-contains}
use Rattle.glob_tree.proofs.ContentLemmas.Contents.{same_key-Decides}

module _ {A : Type 0} where
  pub entries_after-cons : (es : List (Key × Kind)) (node : Node A) (nodes : List (Node A)) → entries_after es
      (node ∷ nodes) ≡ entries_after (es ++ entry_of es node ∷ []) nodes
  unfolding entries_after
  entries_after-cons es node nodes = refl

  pub length-entries_after : (es : List (Key × Kind)) (nodes : List (Node A)) → length (entries_after es nodes) ≡ length es + length nodes
  unfolding entries_after
  length-entries_after es [] = omega arith
  length-entries_after es (node ∷ nodes) = omega (
    arith,
    length-entries_after (es ++ entry_of es node ∷ []) nodes,
    length_push es (entry_of es node),
  )

  pub length-entries_of_nodes : (nodes : List (Node A)) → length (entries_of_nodes nodes) ≡ suc (length nodes)
  length-entries_of_nodes nodes = omega (arith, length-entries_after (root_entry ∷ []) nodes)

  -- nodes do not change the entries before theirs
  pub entries_after-before : (es : List (Key × Kind)) (nodes : List (Node A)) (i : ℕ) (d : Key × Kind) → i < length es
      → slice_index_or (entries_after es nodes) i d ≡ slice_index_or es i d
  unfolding entries_after
  entries_after-before es [] i d h = refl
  entries_after-before es (node ∷ nodes) i d h =
      entries_after-before (es ++ entry_of es node ∷ []) nodes i d (omega (arith, h, length_push es (entry_of es node)))
      ∙ get_or_append_left es (entry_of es node ∷ []) d i h

  -- one more node appends its entry
  pub entries_after-push : (es : List (Key × Kind)) (nodes : List (Node A)) (node : Node A) → entries_after es
      (nodes ++ node ∷ []) ≡ entries_after es nodes ++ entry_of (entries_after es nodes) node ∷ []
  unfolding entries_after
  entries_after-push es [] node = refl
  entries_after-push es (n ∷ nodes) node = entries_after-push (es ++ entry_of es n ∷ []) nodes node

  -- the parent of each node comes before it
  pub parent_before : (n : ℕ) (nodes : List (Node A)) (i : ℕ) (d : Node A) → are_after_parents n nodes ≡ true
      → i < length nodes → (slice_index_or nodes i d).parent < n + i
  parent_before n [] i d h l = absurd (omega (arith, l))
  parent_before n (node ∷ nodes) zero d h l =
      let first = leb-true (suc node.parent) n (and_parts (nat_le (suc node.parent) n) (are_after_parents
      (suc n) nodes) h).0 in omega (arith, first)
  parent_before n (node ∷ nodes) (suc i) d h l =
      let later = parent_before (suc n) nodes i d (and_parts (nat_le (suc node.parent) n) (are_after_parents
      (suc n) nodes) h).1 (omega (arith, l)) in omega (arith, later)

  -- one more node after its parent
  pub are_after_parents-push : (n : ℕ) (nodes : List (Node A)) (node : Node A) → are_after_parents n nodes ≡ true
      → node.parent < n + length nodes → are_after_parents n (nodes ++ node ∷ []) ≡ true
  are_after_parents-push n [] node h l = and_from (nat_le (suc node.parent) n) true (le-leb (suc node.parent) n (omega (arith, l))) refl
  are_after_parents-push n (m ∷ nodes) node h l =
      let parts = and_parts (nat_le (suc m.parent) n) (are_after_parents (suc n) nodes) h in
      and_from (nat_le (suc m.parent) n) (are_after_parents (suc n) (nodes ++ node ∷ [])) parts.0
      (are_after_parents-push (suc n) nodes node parts.1 (omega (arith, l)))

  -- the entry of a node
  pub entries_after-node : (es : List (Key × Kind)) (nodes : List (Node A)) (i : ℕ) (d : Node A) → are_after_parents
      (length es) nodes ≡ true → i < length nodes
      → entry_numbered (entries_after es nodes) (length es + i) ≡ entry_of (entries_after es nodes) (slice_index_or nodes i d)
  entries_after-node es [] i d h l = absurd (omega (arith, l))
  entries_after-node es (node ∷ nodes) zero d h l =
      let more = es ++ entry_of es node ∷ [] in
      let first = leb-true (suc node.parent) (length es) (and_parts (nat_le (suc node.parent) (length es))
      (are_after_parents (suc (length es)) nodes) h).0 in
      ap (λ all. entry_numbered all (length es + 0)) (entries_after-cons es node nodes)
      ∙ entries_after-before more nodes (length es + 0) root_entry (omega (arith, length_push es (entry_of es node)))
      ∙ get_or_at es (entry_of es node) [] root_entry (length es + 0) (omega arith)
      ∙ ap (λ e. (e.0 ++ node.name ∷ [], node.kind)) (sym (entries_after-before es (node ∷ nodes) node.parent
      root_entry (omega (arith, first))))
  entries_after-node es (node ∷ nodes) (suc i) d h l =
      let more = es ++ entry_of es node ∷ [] in
      let longer : length more ≡ suc (length es) = omega (arith, length_push es (entry_of es node)) in
      let rest = (and_parts (nat_le (suc node.parent) (length es)) (are_after_parents (suc (length es)) nodes) h).1 in
      let here : length es + suc i ≡ length more + i = omega (arith, longer) in
      ap (λ all. entry_numbered all (length es + suc i)) (entries_after-cons es node nodes)
      ∙ ap (entry_numbered (entries_after more nodes)) here
      ∙ entries_after-node more nodes i d (ap (λ n. are_after_parents n nodes) longer ∙ rest) (omega (arith, l))
      ∙ ap (λ all. entry_of all (slice_index_or nodes i d)) (sym (entries_after-cons es node nodes))

not_first : (e : Key × Kind) (es : List (Key × Kind)) (d : Key × Kind) → are_distinct (e ∷ es) ≡ true → (j : ℕ)
    → j < length es → e.0 ≡ (slice_index_or es j d).0 → ⊥
not_first e es d h j l same =
    let apart = and_parts (not (list_any (λ f. same_key e.0 f.0) es)) (are_distinct es) h in
    both_ways (list_any (λ f. same_key e.0 f.0) es) (not-true (list_any (λ f. same_key e.0 f.0) es) apart.0)
    (list_any-contains (λ f. same_key e.0 f.0) es (slice_index_or es j d)
    ((same_key-Decides e.0 (slice_index_or es j d).0).1 same) (Contains-get_or es j d l))

-- each key has one number
pub one_number : (es : List (Key × Kind)) (i j : ℕ) (d : Key × Kind) → are_distinct es ≡ true → i < length es → j < length es
    → (slice_index_or es i d).0 ≡ (slice_index_or es j d).0 → i ≡ j
one_number [] i j d h li lj same = absurd (omega (arith, li))
one_number (e ∷ es) zero zero d h li lj same = refl
one_number (e ∷ es) zero (suc j) d h li lj same = absurd (not_first e es d h j (omega (arith, lj)) same)
one_number (e ∷ es) (suc i) zero d h li lj same = absurd (not_first e es d h i (omega (arith, li)) (sym same))
one_number (e ∷ es) (suc i) (suc j) d h li lj same =
    ap suc (one_number es i j d (and_parts (not (list_any (λ f. same_key e.0 f.0) es)) (are_distinct es) h).1
    (omega (arith, li)) (omega (arith, lj)) same)

pub not_zero : (n : ℕ) → (n ≡ 0 → ⊥) → 0 < n
not_zero zero h = absurd (h refl)
not_zero (suc n) h = omega arith

-- these nodes represent these entries
pub record AreNodes {A : Type 0} (nodes : List (Node A)) (entries : List (Key × Kind)) : Type 0 where
  pub is : entries_of_nodes nodes ≡ entries
  pub after : are_after_parents 1 nodes ≡ true
  pub content : is_content (rooted_content (entries_of_nodes nodes)) ≡ true

module _ {A : Type 0} (nodes : List (Node A)) (entries : List (Key × Kind)) (are : AreNodes nodes entries) where
  pub length-entries : length entries ≡ suc (length nodes)
  length-entries = ap length (sym are.is) ∙ length-entries_of_nodes nodes

  pub root_is : entry_numbered entries 0 ≡ root_entry
  root_is = ap (λ es. entry_numbered es 0) (sym are.is) ∙ entries_after-before (root_entry ∷ []) nodes 0 root_entry (omega arith)

  -- the entry of a node that was read by its number
  pub node_is : (number : ℕ) (node : Node A) → (number ≡ 0 → ⊥) → number < length entries → node ≡ slice_index_or nodes
      (number - 1) node → entry_numbered entries number ≡ entry_of entries node
  node_is number node some within read =
      let place : 1 + (number - 1) ≡ number = omega (arith, not_zero number some) in
      ap (λ es. entry_numbered es number) (sym are.is)
      ∙ ap (entry_numbered (entries_of_nodes nodes)) (sym place)
      ∙ entries_after-node (root_entry ∷ []) nodes (number - 1) node are.after (omega (arith, length-entries, within, not_zero number some))
      ∙ ap (entry_of (entries_of_nodes nodes)) (sym read)
      ∙ ap (λ es. entry_of es node) are.is

  -- its parent has a smaller number
  pub parent_is_before : (number : ℕ) (node : Node A) → (number ≡ 0 → ⊥) → number < length entries
      → node ≡ slice_index_or nodes (number - 1) node → node.parent < number
  parent_is_before number node some within read =
      let before = parent_before 1 nodes (number - 1) node are.after (omega (arith, length-entries, within, not_zero number some)) in
      let same : node.parent ≡ (slice_index_or nodes (number - 1) node).parent = ap (λ n. n.parent) read in
      omega (arith, before, same, not_zero number some)

-- without nodes there is only the root
pub entries_of_nodes-nil : (A : Type 0) → entries_of_nodes {A = A} [] ≡ root_entry ∷ []
unfolding entries_after
entries_of_nodes-nil A = refl

pub no_nodes : (A : Type 0) → (are_after_parents {A = A} 1 [] ≡ true) × (is_content (rooted_content (entries_of_nodes {A = A} [])) ≡ true)
unfolding entries_after is_content kind_at
no_nodes A = (refl, refl)
