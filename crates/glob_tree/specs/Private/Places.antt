-- Where a path adds a key, by the number of its directory.
use Rattle.std.specs.Prelude.{◌≡◌, ℕ, ◌<◌, true, length, Some, None}
use Rattle.std.specs.List.{list_all}
use Rattle.std.specs.Str.{is_utf8}
use Rattle.glob_text.specs.Pieces.{pieces}
use Rattle.glob_text.specs.Text.{Text}
use Rattle.glob_tree.specs.Content.{Content, kind_at, is_dir, is_dir_at}
use Rattle.glob_tree.specs.Memory.{key_of, directory_key, add_refusal}
use Rattle.glob_tree.specs.Paths.{is_proper}
use Rattle.glob_tree.specs.Private.Nodes.{key_numbered, kind_numbered, key_within}

-- the path is a separator and these names, all of them proper
abbrev pub AreNames : (path names : Text) → Type 0
AreNames path names = (key_of path ≡ Some (pieces names)) × (list_all is_proper (pieces names) ≡ true)

-- A key can be added under this name in the directory of this number: the path names it, and nothing is there.
pub record IsPlace (c : Content) (path : Text) (number : ℕ) (name : Text) : Type 0 where
  pub key : key_of path ≡ Some (key_within c.kinds number name)
  pub inside : number < length c.kinds
  pub directory : is_dir (kind_numbered c.kinds number) ≡ true
  pub utf8 : is_utf8 name ≡ true
  pub proper : is_proper name ≡ true
  pub allowed : add_refusal c path ≡ None
  pub free : kind_at c (key_within c.kinds number name) ≡ None

-- the path names the directory of this number
pub record IsDirectoryOf (c : Content) (path : Text) (number : ℕ) : Type 0 where
  pub key : directory_key path ≡ Some (key_numbered c.kinds number)
  pub inside : number < length c.kinds
  pub directory : is_dir_at c (key_numbered c.kinds number) ≡ true
