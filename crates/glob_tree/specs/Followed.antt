-- What a tree that follows symbolic links answers.
use Rattle.std.specs.Prelude.{◌≡◌, ◌⊎◌, Bool, true, false, ◌&&◌, ◌||◌, if◌then◌else◌, List, [], ◌∷◌, map, Option, Some}
use Rattle.std.specs.Prelude.{None, All, ⊤}
use Rattle.std.specs.List.{filter}
use Rattle.std.specs.declared.io.ErrorKind.TheVariants.{InvalidFilename}
use Rattle.glob_text.specs.Text.{Text}
use Rattle.glob_tree.specs.Content.{Content, Key, DirEntry, ListAnswer, Entries, Fails, NoDirectory, list_result, look_result}
use Rattle.glob_tree.specs.Disks.{content_with_links}
use Rattle.glob_tree.specs.FileSystems.{FileSystem, Found, Directory, Symlink, File, lstat_found, stat_found, strays_found}
use Rattle.glob_tree.specs.FileSystems.{is_above, is_lost, is_target_lost, number_found}
use Rattle.glob_tree.specs.Looks.{is_directory}
use Rattle.glob_tree.specs.Paths.{join}
use Rattle.glob_tree.specs.Received.{IsAtOrAbove}
use Rattle.glob_tree.specs.Strays.{and_then}
use Rattle.glob_tree.specs.declared.physical.Links.{Links}
use Rattle.glob_tree.specs.declared.physical.Links.TheVariants.{Followed, Kept}
use Rattle.glob_tree.specs.declared.tree.Look.{Look}
use Rattle.glob_tree.specs.declared.tree.Look.TheVariants as look

-- the look that reports what was found; `absent` if nothing was
abbrev pub look_found : (absent : Look) → Option Found → Look
look_found absent None = absent
look_found absent (Some Directory) = look.Dir
look_found absent (Some Symlink) = look.Other
look_found absent (Some File) = look.Other

-- what `lstat` finds, or, for a symbolic link, what `stat` finds; a link that points nowhere is `Other`
abbrev pub look_through : (here there : Option Found) → Look
look_through None there = look.Missing
look_through (Some Directory) there = look.Dir
look_through (Some Symlink) there = look_found look.Other there
look_through (Some File) there = look.Other

-- what a look at a path returns
unfoldable pub look_followed : FileSystem → Text → Look
look_followed f path = look_through (lstat_found f path) (stat_found f path)

abbrev pub is_found_directory : Option Found → Bool
is_found_directory None = false
is_found_directory (Some Directory) = true
is_found_directory (Some Symlink) = false
is_found_directory (Some File) = false

abbrev pub is_found_link : Option Found → Bool
is_found_link None = false
is_found_link (Some Directory) = false
is_found_link (Some Symlink) = true
is_found_link (Some File) = false

-- an entry of the directory at a path, with the kind that `stat` finds
abbrev pub entry_followed : FileSystem → (path : Text) → DirEntry → DirEntry
entry_followed f path e = (e.0, is_found_directory (stat_found f (join path e.0)))

-- a non-UTF-8 name fails the whole listing
abbrev pub answer_followed : FileSystem → (path : Text) → ListAnswer → (strays : List Text) → ListAnswer
answer_followed f path (Entries es) [] = Entries (map (entry_followed f path) es)
answer_followed f path (Entries es) (s ∷ ss) = Fails InvalidFilename
answer_followed f path (Fails kind) ss = Fails kind
answer_followed f path NoDirectory ss = NoDirectory

-- what a listing of a path returns
unfoldable pub list_followed : FileSystem → Text → ListAnswer
list_followed f path = answer_followed f path (list_result f.content path) (strays_found f path)

abbrev pub has_strays : List (Key × Text) → Bool
has_strays [] = false
has_strays (s ∷ ss) = true

-- The content of such a tree. A content has no place for a non-UTF-8 name, so if there is one, no content is known.
abbrev pub followed : FileSystem → Option Content
followed f = if has_strays f.strays then None else content_with_links Followed f

-- the path leads, maybe by a symbolic link at its end, to a directory that is above it
abbrev pub points_back : FileSystem → Text → Bool
points_back f path = is_found_directory (stat_found f path) && is_above f (number_found f path) path

-- a symbolic link that is followed is at the path, and points back
abbrev pub leads_back : Links → FileSystem → Text → Bool
leads_back Kept f path = false
leads_back Followed f path = is_found_link (lstat_found f path) && points_back f path

-- What a look at a path of a `PhysicalDisk` returns. A followed link that leads back is not treated as a directory.
unfoldable pub look_with : Links → FileSystem → Text → Look
look_with Kept f path = look_found look.Missing (lstat_found f path)
look_with Followed f path = if leads_back Followed f path then look.Other else look_followed f path

-- lookups cannot find out what is at the path
abbrev pub is_lost_with : Links → FileSystem → Text → Bool
is_lost_with Kept f path = is_lost f path
is_lost_with Followed f path = is_target_lost f path

-- a path that the strays receive when it is looked up: it is lost, or leads back
abbrev pub is_reported : Links → FileSystem → Text → Bool
is_reported links f path = is_lost_with links f path || leads_back links f path

-- when these paths were looked up, the strays received exactly those of them, in order
abbrev pub AreReported : Links → FileSystem → (paths : List Text) → (old new : Option (List Text)) → Type 0
AreReported links f paths old new = new ≡ and_then old (filter (is_reported links f) paths)

-- a look at a path ends there, or at a non-directory above it, and that was reported if need be
abbrev pub IsLookReported : Links → FileSystem → (path : Text) → (old new : Option (List Text)) → Type 0
IsLookReported links f path old new =
    (last : Text) × IsAtOrAbove last path × ((path ≡ last) ⊎ (is_directory (look_result f.content last) ≡ false))
    × AreReported links f (last ∷ []) old new

-- a look may return this, and hand over that
abbrev pub IsLookSaid : Links → FileSystem → (path : Text) → Look → (old new : Option (List Text)) → Type 0
IsLookSaid links f path seen old new = (seen ≡ look_with links f path) × IsLookReported links f path old new

-- the paths of entries
abbrev pub paths_of : (path : Text) → List DirEntry → List Text
paths_of path entries = map (λ e. join path e.0) entries

-- A listing says of each entry of the directory at a path, if there is one, whether it is a directory, and the strays
-- received the paths of entries that are to be reported.
abbrev pub AreKindsSaid : Links → FileSystem → (path : Text) → ListAnswer → List DirEntry → (old new : Option (List Text)) → Type 0
AreKindsSaid links f path (Entries es) answer old new =
    AreReported links f (paths_of path answer) old new
    × All (λ e. e.1 ≡ is_directory (look_with links f (join path e.0))) answer
AreKindsSaid links f path (Fails kind) answer old new = ⊤
AreKindsSaid links f path NoDirectory answer old new = ⊤
