-- A file system that never changes, and what the calls of a system answer in it.
use Rattle.std.specs.Prelude.{◌≡◌, ◌≢◌, ◌⊎◌, ℕ, Bool, true, false, ◌&&◌, ◌||◌, not, ◌==◌, if◌then◌else◌, List, [], ◌∷◌, ◌++◌}
use Rattle.std.specs.Prelude.{find, Option, Some, None, MatchOption, option_map, option_and_then, unwrap_or, map, bytes_eq}
use Rattle.std.specs.Prelude.{Result, Ok, Err, IsPermutation, IsSome, ⊤}
use Rattle.std.specs.List.{list_any, filter}
use Rattle.std.specs.Fs.{file_type, IsDir, IsSymlink}
use Rattle.std.specs.IoError.{error_kind}
use Rattle.std.specs.Path.{parent_dir}
use Rattle.std.specs.declared.fs.attrs.FileType.{FileType}
use Rattle.std.specs.declared.fs.attrs.Metadata.{Metadata}
use Rattle.std.specs.declared.io.Error.{Error}
use Rattle.std.specs.declared.io.ErrorKind.{ErrorKind}
use Rattle.std.specs.declared.io.ErrorKind.TheVariants.{OutOfMemory, NotFound, NotADirectory}
use Rattle.glob_text.specs.Pieces.{pieces}
use Rattle.glob_text.specs.Text.{Text}
use Rattle.glob_tree.specs.Answers.{IsListFault, names_of}
use Rattle.glob_tree.specs.Content.{Content, Key, same_key, is_content, kind_at, is_dir_at, step, origin, resolve}
use Rattle.glob_tree.specs.Content.{DirEntry, ListAnswer, Entries, Fails, NoDirectory}
use Rattle.glob_tree.specs.Directories.{names_in}
use Rattle.glob_tree.specs.Strays.{texts_of, strays_of, AreReceived}
use Rattle.glob_tree.specs.declared.directory_id.DirectoryId.{DirectoryId}
use Rattle.glob_tree.specs.declared.kind.Kind.{Kind}
use Rattle.glob_tree.specs.declared.kind.Kind.TheVariants.{Dir, Shut, Other}

-- What a symbolic link points to. This is unknown if it cannot be looked up, such as in a directory that may not be
-- searched, or in a cycle of links.
pub data Target : Type 0 where
  Nowhere : Target
  AFile : Target
  ADirectory : Target
  Unknown : Target

abbrev pub may_be_directory : Target → Bool
may_be_directory Nowhere = false
may_be_directory AFile = false
may_be_directory ADirectory = true
may_be_directory Unknown = true

abbrev pub is_unknown : Target → Bool
is_unknown Nowhere = false
is_unknown AFile = false
is_unknown ADirectory = false
is_unknown Unknown = true

-- What is at each key, with symbolic links as non-directories; what each symbolic link points to; the non-UTF-8 names in
-- directories, each with the key of its directory; the numbers of directories, where a symbolic link has that of the
-- directory that it points to; and what cannot be looked up: the keys of non-directories, and those of directories in
-- which only directories can be looked up, such as one that may be read but not searched.
pub record FileSystem : Type 0 where
  pub content : Content
  pub links : List (Key × Target)
  pub strays : List (Key × Text)
  pub numbers : List (Key × DirectoryId)
  pub hidden : List Key

-- a file system without symbolic links, non-UTF-8 names, numbers and hidden keys
abbrev pub plain_files : Content → FileSystem
plain_files c = record { content = c; links = []; strays = []; numbers = []; hidden = [] }

-- the file system is known to be f, and its content is well formed
abbrev pub IsHeld : Option FileSystem → FileSystem → Type 0
IsHeld known f = (known ≡ Some f) × (is_content f.content ≡ true)

-- what the symbolic link at a key points to, if one is there
abbrev pub target_at : FileSystem → Key → Option Target
target_at f k = option_map (λ e. e.1) (find (λ e. same_key k e.0) f.links)

-- what metadata describes
pub data Found : Type 0 where
  Directory : Found
  Symlink : Found
  File : Found

-- what `lstat` reports
abbrev pub lstat_reports : Kind → Option Target → Found
lstat_reports Dir target = Directory
lstat_reports (Shut kind) target = Directory
lstat_reports Other None = File
lstat_reports Other (Some target) = Symlink

-- what `stat` reports: for a symbolic link, what it points to
abbrev pub stat_reports : Kind → Option Target → Option Found
stat_reports Dir target = Some Directory
stat_reports (Shut kind) target = Some Directory
stat_reports Other None = Some File
stat_reports Other (Some Nowhere) = None
stat_reports Other (Some AFile) = Some File
stat_reports Other (Some ADirectory) = Some Directory
stat_reports Other (Some Unknown) = None

abbrev pub is_other : Option Kind → Bool
is_other None = false
is_other (Some Dir) = false
is_other (Some (Shut kind)) = false
is_other (Some Other) = true

abbrev pub lstat_at : FileSystem → Key → Option Found
lstat_at f k = option_map (λ kind. lstat_reports kind (target_at f k)) (kind_at f.content k)

abbrev pub stat_at : FileSystem → Key → Option Found
stat_at f k = option_and_then (λ kind. stat_reports kind (target_at f k)) (kind_at f.content k)

abbrev pub is_directory_key : FileSystem → Option Key → Bool
is_directory_key f k = unwrap_or (option_map (is_dir_at f.content) k) false

-- a piece leads from the directory k to something that cannot be looked up, whether it is there or not
abbrev pub is_hidden : FileSystem → Key → (piece : Text) → Bool
is_hidden f k piece =
    list_any (λ h. same_key k h || same_key (k ++ piece ∷ []) h) f.hidden && is_dir_at f.content k
    && not (is_directory_key f (step f.content piece k))

-- one of the pieces does
abbrev pub meets_hidden : FileSystem → Option Key → List Text → Bool
meets_hidden f None ps = false
meets_hidden f (Some k) [] = false
meets_hidden f (Some k) (p ∷ ps) = is_hidden f k p || meets_hidden f (step f.content p k) ps

-- whether anything is at the path cannot be looked up
unfoldable pub is_lost : FileSystem → Text → Bool
is_lost f path = meets_hidden f (Some (origin f.content path)) (pieces path)

-- what `lstat` finds at a path
unfoldable pub lstat_found : FileSystem → Text → Option Found
lstat_found f path = if is_lost f path then None else option_and_then (lstat_at f) (resolve f.content path)

-- what `stat` finds at a path
unfoldable pub stat_found : FileSystem → Text → Option Found
stat_found f path = if is_lost f path then None else option_and_then (stat_at f) (resolve f.content path)

-- a symbolic link with an unknown target is at the key
abbrev pub is_unknown_at : FileSystem → Key → Bool
is_unknown_at f k = is_other (kind_at f.content k) && unwrap_or (option_map is_unknown (target_at f k)) false

-- what is at the path, or what a symbolic link there points to, cannot be looked up
unfoldable pub is_target_lost : FileSystem → Text → Bool
is_target_lost f path = is_lost f path || unwrap_or (option_map (is_unknown_at f) (resolve f.content path)) false

-- no directory has the number 0
abbrev pub no_number : DirectoryId
no_number = record { dev = 0; ino = 0 }

abbrev pub number_at : FileSystem → Key → DirectoryId
number_at f k = unwrap_or (option_map (λ e. e.1) (find (λ e. same_key k e.0) f.numbers)) no_number

-- the number of the directory that `stat` finds at a path
unfoldable pub number_found : FileSystem → Text → DirectoryId
number_found f path = unwrap_or (option_map (number_at f) (resolve f.content path)) no_number

-- these are numbers of one directory
abbrev pub is_same_directory : DirectoryId → DirectoryId → Bool
is_same_directory a b = not (a.ino == 0) && a.ino == b.ino && a.dev == b.dev

-- the metadata has the type of what was found
abbrev pub HasType : Found → FileType → Type 0
HasType Directory type = IsDir type
HasType Symlink type = IsSymlink type
HasType File type = (IsDir type → ⊥) × (IsSymlink type → ⊥)

-- an answer of `lstat` or `stat` if this is found: metadata of its type, or an error if nothing is found or memory ran out
abbrev pub IsStatAnswer : Option Found → Result Metadata Error → Type 0
IsStatAnswer found (Ok metadata) = MatchOption found ⊥ (λ one. HasType one (file_type metadata))
IsStatAnswer found (Err e) = error_kind e ≢ OutOfMemory → found ≡ None

-- An answer of `directory_id` if `stat` finds this, and a directory has this number: `Ok None` for a non-directory.
abbrev pub IsNumberAnswer : Option Found → (number : DirectoryId) → Result (Option DirectoryId) Error → Type 0
IsNumberAnswer found number (Ok None) = (found ≢ None) × (found ≢ Some Directory)
IsNumberAnswer found number (Ok (Some one)) = (found ≡ Some Directory) × (one ≡ number)
IsNumberAnswer found number (Err e) = error_kind e ≢ OutOfMemory → found ≡ None

-- this kind of error says that nothing is there; if that is unknown, it does not
abbrev pub IsLookupKind : (unknown : Bool) → ErrorKind → Type 0
IsLookupKind true kind = (kind ≢ NotFound) × (kind ≢ NotADirectory)
IsLookupKind false kind = (kind ≡ NotFound) ⊎ (kind ≡ NotADirectory)

-- the error of a lookup, unless memory ran out
abbrev pub IsLookupError : (unknown : Bool) → Error → Type 0
IsLookupError unknown e = error_kind e ≢ OutOfMemory → IsLookupKind unknown (error_kind e)

-- a symbolic link at the key points to a directory, or may
abbrev pub is_directory_link : FileSystem → Key → Bool
is_directory_link f k = not (is_dir_at f.content k) && list_any (λ e. same_key k e.0 && may_be_directory e.1) f.links

-- the pieces pass a symbolic link to a directory: some of them lead to it, and others follow
abbrev pub passes_link : FileSystem → Option Key → List Text → Bool
passes_link f None ps = false
passes_link f (Some k) [] = false
passes_link f (Some k) (p ∷ ps) = is_directory_link f k || passes_link f (step f.content p k) ps

-- The path passes no such symbolic link before its end. Nothing is promised for a path that does.
unfoldable pub is_direct : FileSystem → Text → Bool
is_direct f path = not (passes_link f (Some (origin f.content path)) (pieces path))

abbrev pub leads_up : Text → Bool
leads_up piece = bytes_eq piece parent_dir

-- Pieces lead down through the directory with this number: they go on from it, and no `..` follows.
abbrev pub goes_through : FileSystem → DirectoryId → Option Key → List Text → Bool
goes_through f number None ps = false
goes_through f number (Some k) [] = false
goes_through f number (Some k) (p ∷ ps) =
    (is_same_directory number (number_at f k) && not (list_any leads_up (p ∷ ps))) || goes_through f number (step f.content p k) ps

-- the directory of this number is above a path
unfoldable pub is_above : FileSystem → DirectoryId → Text → Bool
is_above f number path = goes_through f number (Some (origin f.content path)) (pieces path)

-- something cannot be looked up
abbrev pub has_hidden : List Key → Bool
has_hidden [] = false
has_hidden (k ∷ ks) = true

-- some symbolic link points to a directory, or may
abbrev pub has_directory_links : FileSystem → Bool
has_directory_links f = list_any (λ e. may_be_directory e.1) f.links

abbrev pub strays_at : FileSystem → Option Key → List Text
strays_at f None = []
strays_at f (Some k) = map (λ s. s.1) (filter (λ s. same_key k s.0) f.strays)

-- the non-UTF-8 names in the directory at a path
unfoldable pub strays_found : FileSystem → Text → List Text
strays_found f path = strays_at f (resolve f.content path)

-- the names read from a directory, each once and in any order: the UTF-8 names are its entries', the others are its
-- strays
abbrev pub AreNames : List DirEntry → (strays names : List Text) → Type 0
AreNames entries strays names = IsPermutation (names_of entries) (texts_of names) × IsPermutation strays (strays_of names)

-- What an opened directory gives to read: its names, and then the end. If it cannot be listed, a read fails.
abbrev pub IsOpened : ListAnswer → (strays : List Text) → (left : Option (List ℕ)) → (fault : Option ErrorKind) → Type 0
IsOpened (Entries entries) strays left fault =
    (bytes : List ℕ) × (left ≡ Some bytes) × (fault ≡ None) × AreNames entries strays (names_in bytes)
IsOpened (Fails kind) strays left fault = IsSome left × (fault ≡ Some kind)
IsOpened NoDirectory strays left fault = ⊤

-- a listing received the strays of the directory
abbrev pub IsReceived : ListAnswer → (strays : List Text) → (old new : Option (List Text)) → Type 0
IsReceived (Entries entries) strays old new = AreReceived strays old new
IsReceived (Fails kind) strays old new = ⊤
IsReceived NoDirectory strays old new = ⊤

-- opening a directory may fail with this error: the error of its listing, or memory ran out
abbrev pub OpenMayFail : ListAnswer → Error → Type 0
OpenMayFail answer e = error_kind e ≢ OutOfMemory → IsListFault answer (error_kind e)
