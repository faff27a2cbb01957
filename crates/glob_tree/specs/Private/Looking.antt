-- What lookups say about paths, with links kept or followed.
use Rattle.std.specs.Prelude.{◌≡◌, ◌≢◌, ◌⊎◌, ◌++◌, ◌∷◌, [], Bool, true, false, ◌&&◌, ◌||◌, not, List, Option, None, Some, is_some, ⊤}
use Rattle.std.specs.Fs.{file_type}
use Rattle.std.specs.List.{filter}
use Rattle.std.specs.Path.{has_no_slash}
use Rattle.std.specs.declared.fs.attrs.Metadata.{Metadata}
use Rattle.glob_text.specs.Characters.{slash}
use Rattle.glob_text.specs.Text.{Text}
use Rattle.glob_tree.specs.Content.{Content, Key, look_result, resolve}
use Rattle.glob_tree.specs.Disks.{content_with_links}
use Rattle.glob_tree.specs.FileSystems.{FileSystem, Found, Directory, HasType, IsHeld, is_direct, is_target_lost, stat_found}
use Rattle.glob_tree.specs.Followed.{AreReported, is_found_directory, look_with, points_back}
use Rattle.glob_tree.specs.Looks.{is_directory}
use Rattle.glob_tree.specs.Received.{IsAtOrAbove}
use Rattle.glob_tree.specs.Strays.{and_then}
use Rattle.glob_tree.specs.declared.directory_id.DirectoryId.{DirectoryId}
use Rattle.glob_tree.specs.declared.physical.Links.{Links}
use Rattle.glob_tree.specs.declared.tree.Look.{Look}
use Rattle.glob_tree.specs.declared.tree.Look.TheVariants as look

-- what contracts see of the lookups of a disk
pub record LookupsModel (S : Type 0) : Type 0 where
  pub files : Option FileSystem
  pub links : Links
  pub strays : S

-- the file system has a content: links are kept, or no link points to a directory
abbrev pub has_places : Links → FileSystem → Bool
has_places links f = is_some (content_with_links links f)

-- the file system is known to be f, and f has a content
abbrev pub IsSeen : Links → Option FileSystem → FileSystem → Type 0
IsSeen links files f = IsHeld files f × (has_places links f ≡ true)

-- the metadata describes what is found; there is no metadata if nothing is found
abbrev pub IsFoundAs : Option Found → Option Metadata → Type 0
IsFoundAs None None = ⊤
IsFoundAs None (Some metadata) = ⊥
IsFoundAs (Some found) None = ⊥
IsFoundAs (Some found) (Some metadata) = HasType found (file_type metadata)

-- the number of the directory that is found; there is no number if something else is found
abbrev pub IsTarget : Option Found → DirectoryId → Option DirectoryId → Type 0
IsTarget found number None = found ≢ Some Directory
IsTarget found number (Some one) = (found ≡ Some Directory) × (one ≡ number)

-- the path leads somewhere
abbrev pub IsThere : FileSystem → Text → Type 0
IsThere f path = (k : Key) × (resolve f.content path ≡ Some k)

-- whether the link at a path leads on, and what was received
abbrev pub IsLinkSaid : FileSystem → Text → Bool → (old new : Option (List Text)) → Type 0
IsLinkSaid f path leads old new =
    (leads ≡ (is_found_directory (stat_found f path) && not (points_back f path)))
    × (new ≡ and_then old (filter (λ p. is_target_lost f p || points_back f p) (path ∷ [])))

-- a lookup of this path returned this, and the strays received it if need be
abbrev pub IsLookedUp : Links → FileSystem → (path : Text) → Look → (old new : Option (List Text)) → Type 0
IsLookedUp links f path seen old new = (seen ≡ look_with links f path) × AreReported links f (path ∷ []) old new

-- a non-directory was looked up at the path or above it, and was received if need be
abbrev pub IsStopped : Links → FileSystem → (path : Text) → (old new : Option (List Text)) → Type 0
IsStopped links f path old new =
    (last : Text) × IsAtOrAbove last path × (is_directory (look_result f.content last) ≡ false)
    × AreReported links f (last ∷ []) old new

-- the path is empty or leads to a directory, so names may follow it
abbrev pub IsWay : Content → Text → Type 0
IsWay c path = (path ≡ []) ⊎ (is_directory (look_result c path) ≡ true)

-- the path is a way, if the file system is known
abbrev pub IsWayIn : Links → Option FileSystem → Text → Type 0
IsWayIn links files path = (f : FileSystem) → IsSeen links files f → IsWay f.content path

-- whether everything above a path is a directory: if so, the path is direct, and if not, nothing is there
abbrev pub HasWay : FileSystem → Text → Bool → Type 0
HasWay f path true = is_direct f path ≡ true
HasWay f path false = look_result f.content path ≡ look.Missing

-- whether a path is a way; the empty path is a way
abbrev pub LeadsOn : FileSystem → Text → Bool → Type 0
LeadsOn f path true = IsWay f.content path
LeadsOn f path false = (path ≢ []) × (is_directory (look_result f.content path) ≡ false)

-- whether a directory is the way or above it; the empty path is above every way
abbrev pub IsOnWay : (directory way : Text) → Bool → Type 0
IsOnWay directory way true = (directory ≡ []) ⊎ ((way ≡ directory) ⊎ ((more : Text) × (way ≡ directory ++ slash ∷ more)))
IsOnWay directory way false = directory ≢ []

-- each name appended to the path makes a direct path
abbrev pub AreDirect : FileSystem → Text → Type 0
AreDirect f path = (name : Text) → has_no_slash name ≡ true → is_direct f (path ++ name) ≡ true
