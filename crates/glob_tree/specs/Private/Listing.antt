-- How a disk turns names into entries.
use Rattle.std.specs.Prelude.{◌≡◌, All, Bool, true, false, ◌&&◌, ◌++◌, ◌⊎◌, ℕ, List, [], ◌∷◌, map, Option, None, Some, ⊤}
use Rattle.std.specs.IoError.{error_kind}
use Rattle.std.specs.List.{filter, list_all}
use Rattle.std.specs.Str.{is_utf8}
use Rattle.std.specs.declared.io.ErrorKind.{ErrorKind}
use Rattle.std.specs.declared.io.ErrorKind.TheVariants.{InvalidFilename}
use Rattle.glob_text.specs.Text.{Text}
use Rattle.glob_tree.specs.Content.{Content, DirEntry, ListAnswer, Entries, Fails, NoDirectory, look_result}
use Rattle.glob_tree.specs.FileSystems.{FileSystem, Found, Directory, File, stat_found}
use Rattle.glob_tree.specs.Followed.{is_found_directory, is_reported, look_with, paths_of}
use Rattle.glob_tree.specs.Looks.{is_directory}
use Rattle.glob_tree.specs.Paths.{is_proper, join, nul}
use Rattle.glob_tree.specs.Strays.{and_then, texts_of}
use Rattle.glob_tree.specs.declared.physical.Links.{Links}
use Rattle.glob_tree.specs.declared.reading.Kinds.{Kinds}
use Rattle.glob_tree.specs.declared.reading.Kinds.TheVariants.{LookedUp, LeftOut}
use Rattle.glob_tree.specs.declared.tree.ListError.{ListError}
use Rattle.glob_tree.specs.declared.tree.ListError.TheVariants.{Read, Memory}
use Rattle.glob_tree.specs.declared.tree.Look.{Look}
use Rattle.glob_tree.specs.declared.tree.Look.TheVariants as look

abbrev pub are_looked_up : Kinds → Bool
are_looked_up LookedUp = true
are_looked_up LeftOut = false

-- Whether a name in a directory is a directory, in a content with all links. The path ends in a separator.
abbrev pub is_dir_in : Content → (path name : Text) → Bool
is_dir_in c path name = is_directory (look_result c (path ++ name))

abbrev pub said_entry : (Text → Bool) → Text → DirEntry
said_entry said name = (name, said name)

-- the entries of names, with what is said about each
unfoldable pub said_entries : (Text → Bool) → List Text → List DirEntry
said_entries said names = map (said_entry said) names

-- the bytes are UTF-8, and a proper name
abbrev pub is_text_name : Text → Bool
is_text_name name = is_utf8 name && is_proper name

unfoldable pub are_text_names : List Text → Bool
are_text_names names = list_all is_text_name names

-- the error of making entries; `all` says whether all names can name entries
abbrev pub IsNameError : (all : Bool) → ListError → Type 0
IsNameError all (Read e) = (all ≡ false) × (error_kind e ≡ InvalidFilename)
IsNameError all Memory = ⊤

-- the error of reading names and making their entries
abbrev pub IsEntriesError : (all : Bool) → (fault : Option ErrorKind) → ListError → Type 0
IsEntriesError all fault (Read e) =
    (fault ≡ Some (error_kind e)) ⊎ ((fault ≡ None) × (all ≡ false) × (error_kind e ≡ InvalidFilename))
IsEntriesError all fault Memory = ⊤

-- the names that become entries: only the UTF-8 names if the others are received, otherwise all names
abbrev pub names_taken : (receives : Bool) → List Text → List Text
names_taken true names = texts_of names
names_taken false names = names

-- all these names are UTF-8 and proper
abbrev pub are_names_taken : (receives : Bool) → List Text → Bool
are_names_taken receives names = are_text_names (names_taken receives names)

-- the names of a directory that fail its listing
abbrev pub failing : (receives : Bool) → (strays : List Text) → List Text
failing true strays = []
failing false strays = strays

-- the error for a non-UTF-8 name that is not received
abbrev pub IsStrayError : (receives : Bool) → ListError → Type 0
IsStrayError receives (Read e) = (receives ≡ false) × (error_kind e ≡ InvalidFilename)
IsStrayError receives Memory = ⊤

-- The kind that a disk says a path has. A disk that receives nothing finds no link that leads back.
abbrev pub IsKindSaid : (receives : Bool) → Links → FileSystem → (path : Text) → (is_dir : Bool) → Type 0
IsKindSaid true links f path is_dir = is_dir ≡ is_directory (look_with links f path)
IsKindSaid false links f path is_dir = is_dir ≡ is_found_directory (stat_found f path)

-- what was received when these paths were looked up
abbrev pub AreReceivedBy : (receives : Bool) → Links → FileSystem → (paths : List Text) → (old new : Option (List Text)) → Type 0
AreReceivedBy receives links f paths old new = new ≡ and_then old (filter (λ p. receives && is_reported links f p) paths)

-- this was said about the path, and this was received
abbrev pub IsSaid : (receives : Bool) → Links → FileSystem → (path : Text) → (is_dir : Bool) → (old new : Option (List Text)) → Type 0
IsSaid receives links f path is_dir old new =
    AreReceivedBy receives links f (path ∷ []) old new × IsKindSaid receives links f path is_dir

-- the same for the entries of a directory, whose path ends in a separator
abbrev pub AreSaid : (receives : Bool) → Links → FileSystem → (path : Text) → List DirEntry → (old new : Option (List Text)) → Type 0
AreSaid receives links f path entries old new =
    AreReceivedBy receives links f (map (λ e. path ++ e.0) entries) old new
    × All (λ e. IsKindSaid receives links f (path ++ e.0) e.1) entries

-- the same for the answer to a listing of a path
abbrev pub AreAnswered : (receives : Bool) → Links → FileSystem → (path : Text) → ListAnswer → List DirEntry
    → (old new : Option (List Text)) → Type 0
AreAnswered receives links f path (Entries es) answer old new =
    AreReceivedBy receives links f (paths_of path answer) old new
    × All (λ e. IsKindSaid receives links f (join path e.0) e.1) answer
AreAnswered receives links f path (Fails kind) answer old new = ⊤
AreAnswered receives links f path NoDirectory answer old new = ⊤

-- names, each followed by a NUL
abbrev pub name_bytes : List Text → List ℕ
name_bytes [] = []
name_bytes (n ∷ ns) = n ++ nul ∷ name_bytes ns

-- what was found, by what a look reports, without symbolic links
abbrev pub found_by : Look → Option Found
found_by look.Dir = Some Directory
found_by look.Other = Some File
found_by look.Missing = None
