-- The nodes of a tree in memory, and the entries that they represent.
use Rattle.std.specs.Prelude.{ℕ, suc, Bool, true, ◌&&◌, nat_le, List, [], ◌∷◌, ◌++◌, fold, slice_index_or}
use Rattle.glob_text.specs.Text.{Text}
use Rattle.glob_tree.specs.Content.{Content, Key}
use Rattle.glob_tree.specs.declared.kind.Kind.{Kind}
use Rattle.glob_tree.specs.declared.kind.Kind.TheVariants.{Dir}
use Rattle.glob_tree.specs.declared.nodes.Node.{Node}

-- the root, which has number 0
abbrev pub root_entry : Key × Kind
root_entry = ([], Dir)

-- the entry of this number
abbrev pub entry_numbered : List (Key × Kind) → ℕ → Key × Kind
entry_numbered entries number = slice_index_or entries number root_entry

abbrev pub key_numbered : List (Key × Kind) → ℕ → Key
key_numbered entries number = (entry_numbered entries number).0

abbrev pub kind_numbered : List (Key × Kind) → ℕ → Kind
kind_numbered entries number = (entry_numbered entries number).1

-- the key of a name in the directory of this number
abbrev pub key_within : List (Key × Kind) → (directory : ℕ) → (name : Text) → Key
key_within entries directory name = key_numbered entries directory ++ name ∷ []

-- a node's entry: its key is its parent's key and its name
abbrev pub entry_of : {A : Type 0} → List (Key × Kind) → Node A → Key × Kind
entry_of entries node = (key_within entries node.parent node.name, node.kind)

-- entries, followed by those of nodes
unfoldable pub entries_after : {A : Type 0} → List (Key × Kind) → List (Node A) → List (Key × Kind)
entries_after entries nodes = fold (λ es node. es ++ entry_of es node ∷ []) entries nodes

-- the root's entry, followed by those of the nodes
abbrev pub entries_of_nodes : {A : Type 0} → List (Node A) → List (Key × Kind)
entries_of_nodes nodes = entries_after (root_entry ∷ []) nodes

-- each node comes after its parent; n is the number of the first
abbrev pub are_after_parents : {A : Type 0} → ℕ → List (Node A) → Bool
are_after_parents n [] = true
are_after_parents n (node ∷ nodes) = nat_le (suc node.parent) n && are_after_parents (suc n) nodes

-- the content with these entries and the root as the current directory
abbrev pub rooted_content : List (Key × Kind) → Content
rooted_content entries = record { kinds = entries; current = [] }

-- the content with these entries and the directory of this number as the current one
abbrev pub content_at : List (Key × Kind) → (current : ℕ) → Content
content_at entries current = record { kinds = entries; current = key_numbered entries current }
