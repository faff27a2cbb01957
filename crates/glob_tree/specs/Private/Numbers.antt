-- Nodes and their entries, by number.
use Rattle.std.specs.Prelude.{◌≡◌, true, false, [], ◌∷◌, ◌++◌, ℕ, ◌<◌, Bool, ◌&&◌, ◌==◌, bytes_eq, List, length, Option}
use Rattle.std.specs.Prelude.{Some, None, if◌then◌else◌, option_map, IfSome, MatchOption}
use Rattle.std.specs.Borrow.{Bor}
use Rattle.glob_text.specs.Text.{Text}
use Rattle.glob_text.specs.Pieces.{pieces}
use Rattle.glob_tree.specs.Content.{Key, DirEntry, is_dir, is_dir_at, kind_at}
use Rattle.glob_tree.specs.Private.Nodes.{root_entry, entry_numbered, key_numbered, kind_numbered, key_within, entry_of, rooted_content}
use Rattle.glob_tree.specs.declared.kind.Kind.{Kind}
use Rattle.glob_tree.specs.declared.nodes.Node.{Node}

-- this is the node of the number; the root has none
abbrev pub IsNode : {A : Type 0} → List (Key × Kind) → ℕ → Option (Bor (Node A)) → Type 0
IsNode entries number node = MatchOption node
    ((number ≡ 0) × (entry_numbered entries number ≡ root_entry))
    (λ node. (entry_numbered entries number ≡ entry_of entries node.now) × (node.now.parent < length entries))

-- this kind is at the key of the number
abbrev pub IsKindAt : List (Key × Kind) → ℕ → Kind → Type 0
IsKindAt entries number kind = kind_at (rooted_content entries) (key_numbered entries number) ≡ Some kind

-- the directory of this number has no entry of this name
abbrev pub IsFree : List (Key × Kind) → (directory : ℕ) → (name : Text) → Type 0
IsFree entries directory name = kind_at (rooted_content entries) (key_within entries directory name) ≡ None

-- the entries, and one more of this name in the directory of this number
abbrev pub entries_with : List (Key × Kind) → (directory : ℕ) → (name : Text) → Kind → List (Key × Kind)
entries_with entries directory name kind = entries ++ (key_within entries directory name, kind) ∷ []

-- the number belongs to the key, or there is no number and nothing at the key
abbrev pub Leads : List (Key × Kind) → Option ℕ → Option Key → Type 0
Leads entries number key = (option_map (key_numbered entries) number ≡ key) × IfSome number (λ n. n < length entries)

-- the node has this name in the directory of this number
abbrev pub is_named : {A : Type 0} → (directory : ℕ) → (name : Text) → Node A → Bool
is_named directory name node = node.parent == directory && bytes_eq node.name name

-- the node's entry in a listing of the directory of this number
abbrev pub listing_entry : {A : Type 0} → (directory : ℕ) → Node A → Option DirEntry
listing_entry directory node = if node.parent == directory then Some (node.name, is_dir node.kind) else None

-- the names of a directory: the pieces of a text, or none for the root
abbrev pub directory_names : Option (Bor Text) → Key
directory_names None = []
directory_names (Some names) = pieces names.now

-- the number belongs to this key, or there is no number, and no directory is at the key
abbrev pub IsFoundAt : List (Key × Kind) → Key → Option ℕ → Type 0
IsFoundAt entries key number = MatchOption number
    (is_dir_at (rooted_content entries) key ≡ false)
    (λ n. (n < length entries) × (key_numbered entries n ≡ key))

-- the number belongs to the directory at this key, or there is neither a number nor a directory
abbrev pub IsDirectoryAt : List (Key × Kind) → Key → Option ℕ → Type 0
IsDirectoryAt entries key number = MatchOption number
    (is_dir_at (rooted_content entries) key ≡ false)
    (λ n. (n < length entries) × (key_numbered entries n ≡ key) × (is_dir (kind_numbered entries n) ≡ true)
    × (is_dir_at (rooted_content entries) key ≡ true))
