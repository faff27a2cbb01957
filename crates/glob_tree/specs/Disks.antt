-- What contracts see of a disk.
use Rattle.std.specs.Prelude.{if◌then◌else◌, ℕ, Option, Some, None}
use Rattle.glob_tree.specs.Content.{Content}
use Rattle.glob_tree.specs.FileSystems.{FileSystem, has_directory_links, has_hidden}
use Rattle.glob_tree.specs.declared.physical.Links.{Links}
use Rattle.glob_tree.specs.declared.physical.Links.TheVariants.{Kept, Followed}

-- the file system, if it is known, and how much was asked
pub record DiskModel : Type 0 where
  pub files : Option FileSystem
  pub asks : ℕ

-- the same, whether symbolic links are followed, and who receives what is left out
pub record PhysicalModel (S : Type 0) : Type 0 where
  pub files : Option FileSystem
  pub asks : ℕ
  pub links : Links
  pub strays : S

-- The content, if each of its files can be looked up.
abbrev pub visible_content : FileSystem → Option Content
visible_content f = if has_hidden f.hidden then None else Some f.content

-- The content of a tree over a file system. If symbolic links are kept, they are non-directories. A content has no
-- place for a followed link to a directory, or for a file that is listed and cannot be looked up; if there is one, no
-- content is known.
abbrev pub content_with_links : Links → FileSystem → Option Content
content_with_links Kept f = visible_content f
content_with_links Followed f = if has_directory_links f then None else visible_content f
