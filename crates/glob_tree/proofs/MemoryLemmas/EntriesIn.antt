-- The entries of a directory, one node after another.
use Rattle.std.proofs.Common.{◌≡◌, ℕ, ◌+◌, ◌<◌, List, [], ◌∷◌, ◌++◌, length, take, cond, Some, None, ap, sym, ◌∙◌}
use Rattle.std.specs.Prelude.{slice_index_or, filter_map}
use Rattle.std.specs.List.{cons_option}
use Rattle.std.proofs.lemmas.Bool.{eq-eqb, ne_eqb}
use Rattle.std.proofs.lemmas.List.{take_more, map-append, append-nil}
use Rattle.std.proofs.lemmas.List.Elements.{filter_map-append}
use Rattle.glob_tree.specs.Content.{is_dir}
use Rattle.glob_tree.specs.Answers.{entries_of}
use Rattle.glob_tree.specs.Private.Numbers.{listing_entry}
use Rattle.glob_tree.specs.declared.tree.Entry.{Entry}
use Rattle.glob_tree.specs.declared.nodes.Node.{Node}

module _ {A : Type 0} (directory : ℕ) (nodes : List (Node A)) (i : ℕ) (node : Node A) (within : i < length nodes)
    (read : node ≡ slice_index_or nodes i node) where
  -- the entries, with those of one more node
  more : filter_map (listing_entry directory) (take (i + 1) nodes) ≡ filter_map (listing_entry directory)
      (take i nodes) ++ cons_option (listing_entry directory node) []
  more =
      ap (filter_map (listing_entry directory)) (take_more nodes i node within)
      ∙ filter_map-append (listing_entry directory) (take i nodes) (slice_index_or nodes i node ∷ [])
      ∙ ap (λ n. filter_map (listing_entry directory) (take i nodes) ++ cons_option (listing_entry directory n) []) (sym read)

  pub listed_more : (entries : List (Entry A)) (entry : Entry A) → entries_of entries ≡ filter_map
      (listing_entry directory) (take i nodes) → node.parent ≡ directory
      → entry.name ≡ node.name → entry.is_dir ≡ is_dir node.kind → entries_of (entries ++ entry ∷ []) ≡ filter_map
      (listing_entry directory) (take (i + 1) nodes)
  listed_more entries entry so_far here name kind =
      map-append (λ (e : Entry A). (e.name, e.is_dir)) entries (entry ∷ [])
      ∙ (λ j. so_far j ++ (name j, kind j) ∷ [])
      ∙ ap (λ b. filter_map (listing_entry directory) (take i nodes) ++ cons_option
      (cond b (Some (node.name, is_dir node.kind)) None) []) (sym (eq-eqb node.parent directory here))
      ∙ sym more

  pub listed_same : (entries : List (Entry A)) → entries_of entries ≡ filter_map (listing_entry directory)
      (take i nodes) → (node.parent ≡ directory → ⊥)
      → entries_of entries ≡ filter_map (listing_entry directory) (take (i + 1) nodes)
  listed_same entries so_far apart =
      so_far
      ∙ sym (append-nil (filter_map (listing_entry directory) (take i nodes)))
      ∙ ap (λ b. filter_map (listing_entry directory) (take i nodes) ++ cons_option
      (cond b (Some (node.name, is_dir node.kind)) None) []) (sym (ne_eqb node.parent directory apart))
      ∙ sym more
