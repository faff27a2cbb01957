-- Files in memory, as lists of pairs: a key and what is there.
use Rattle.std.specs.Prelude.{◌==◌, ◌&&◌, not, if◌then◌else◌, Bool, List, [], map, filter_map, find, Option, Some, None}
use Rattle.std.specs.Prelude.{option_map, option_and_then}
use Rattle.std.specs.Borrow.{Bor}
use Rattle.std.specs.List.{filter, list_any, list_all}
use Rattle.std.specs.Str.{is_utf8}
use Rattle.glob.specs.Text.{Text}
use Rattle.glob_tree.specs.Content.{Content, Key, same_key, resolve, names_past, only_name}
use Rattle.glob_tree.specs.FileSystems.{FileSystem, Found, Target, Nowhere, AFile, ADirectory, lstat_reports, stat_reports}
use Rattle.glob_tree.specs.Paths.{nul}
use Rattle.glob_tree.specs.declared.kind.Kind.{Kind}
use Rattle.glob_replay_walks.specs.declared.mem_files.Keyed.{Keyed}
use Rattle.glob_replay_walks.specs.declared.mem_files.LinkTo.{LinkTo}
use Rattle.glob_replay_walks.specs.declared.mem_files.LinkTo.TheVariants as to

-- the key with these names
abbrev pub key_of : List (Bor Text) → Key
key_of names = map (λ n. n.now) names

abbrev pub key_at : {T A : Type 0} → Keyed T A → Key
key_at e = key_of e.key.items

-- what is at a key
abbrev pub value_at : {T A : Type 0} → Key → List (Keyed T A) → Option T
value_at k list = option_map (λ e. e.what) (find (λ e. same_key k (key_at e)) list)

abbrev pub target_of : LinkTo → Target
target_of to.Nowhere = Nowhere
target_of to.AFile = AFile
target_of to.ADirectory = ADirectory

-- the content with these kinds, and the root as the current directory
abbrev pub content_of : {A : Type 0} → List (Keyed Kind A) → Content
content_of kinds = record { kinds = map (λ e. (key_at e, e.what)) kinds; current = [] }

abbrev pub links_of : {A : Type 0} → List (Keyed LinkTo A) → List (Key × Target)
links_of links = map (λ e. (key_at e, target_of e.what)) links

abbrev pub strays_of : {A : Type 0} → List (Keyed (Bor Text) A) → List (Key × Text)
strays_of strays = map (λ e. (key_at e, e.what.now)) strays

-- the name is not UTF-8, and has no NUL
abbrev pub is_stray : Text → Bool
is_stray name = not (is_utf8 name) && not (list_any (λ b. b == nul) name)

-- the file system that is held, if no stray name is UTF-8 or has a NUL
unfoldable pub files_of : {A : Type 0} → List (Keyed Kind A) → List (Keyed LinkTo A) → List (Keyed (Bor Text) A) → Option FileSystem
files_of kinds links strays =
    if list_all (λ s. is_stray s.what.now) strays
    then Some (record { content = content_of kinds; links = links_of links; strays = strays_of strays; numbers = []; hidden = [] })
    else None

-- the name that a key has in this directory, if it is directly in it
abbrev pub name_in : (directory key : Key) → Option Text
name_in directory key = option_and_then only_name (names_past directory key)

-- the names of a directory, and those that are not UTF-8
abbrev pub names_at : {A : Type 0} → Key → List (Keyed Kind A) → List Text
names_at k kinds = filter_map (λ e. name_in k (key_at e)) kinds

abbrev pub strays_at : {A : Type 0} → Key → List (Keyed (Bor Text) A) → List Text
strays_at k strays = map (λ s. s.what.now) (filter (λ s. same_key k (key_at s)) strays)

-- what is where a path leads, and what the link there points to
abbrev pub found_at : {A : Type 0} → List (Keyed Kind A) → List (Keyed LinkTo A) → Key → Option (Kind × Option LinkTo)
found_at kinds links k = option_map (λ kind. (kind, value_at k links)) (value_at k kinds)

abbrev pub found_of : {A : Type 0} → List (Keyed Kind A) → List (Keyed LinkTo A) → Text → Option (Kind × Option LinkTo)
found_of kinds links path = option_and_then (found_at kinds links) (resolve (content_of kinds) path)

-- what `lstat` and `stat` report about it
abbrev pub lstat_of : Option (Kind × Option LinkTo) → Option Found
lstat_of found = option_map (λ p. lstat_reports p.0 (option_map target_of p.1)) found

abbrev pub stat_of : Option (Kind × Option LinkTo) → Option Found
stat_of found = option_and_then (λ p. stat_reports p.0 (option_map target_of p.1)) found
