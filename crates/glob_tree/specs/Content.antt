-- What a tree holds, where a path leads in it, and what the tree answers.
use Rattle.std.specs.Prelude.{◌≡◌, ◌-◌, Bool, true, false, ◌&&◌, not, if◌then◌else◌, List, [], ◌∷◌, ◌++◌, length, take, fold}
use Rattle.std.specs.Prelude.{find, filter_map, bytes_eq, Option, Some, None, is_some, option_map, option_and_then}
use Rattle.std.specs.Prelude.{unwrap_or}
use Rattle.std.specs.List.{list_any, list_all}
use Rattle.std.specs.Cmp.Lexicographic.{pointwise, slice_cmp}
use Rattle.std.specs.Ordering.{nat_cmp, is_le}
use Rattle.std.specs.Path.{parent_dir}
use Rattle.std.specs.Str.{is_utf8}
use Rattle.std.specs.declared.io.ErrorKind.{ErrorKind}
use Rattle.glob_text.specs.Characters.{slash}
use Rattle.glob_text.specs.Text.{Text}
use Rattle.glob_text.specs.Pieces.{is_empty, begins_with, pieces}
use Rattle.glob_tree.specs.Paths.{stays, is_proper}
use Rattle.glob_tree.specs.declared.kind.Kind.{Kind}
use Rattle.glob_tree.specs.declared.kind.Kind.TheVariants.{Dir, Shut, Other}
use Rattle.glob_tree.specs.declared.tree.Look.{Look}
use Rattle.glob_tree.specs.declared.tree.Look.TheVariants as look

-- where an entry is: the names from the root down
abbrev pub Key : Type 0
Key = List Text

abbrev pub same_key : Key → Key → Bool
same_key k l = pointwise bytes_eq k l

-- the key without its last name; the root is its own parent
abbrev pub parent_key : Key → Key
parent_key k = take (length k - 1) k

-- the rest of a key that begins with the names of k
abbrev pub names_past : (k key : Key) → Option Key
names_past [] names = Some names
names_past (m ∷ ms) [] = None
names_past (m ∷ ms) (n ∷ ns) = if bytes_eq m n then names_past ms ns else None

-- What is at each key, as a list of pairs in any order, and the key of the current directory.
pub record Content : Type 0 where
  pub kinds : List (Key × Kind)
  pub current : Key

-- where a path starts: at the root if it begins with a separator, and otherwise in the current directory
abbrev pub origin : Content → Text → Key
origin c path = if begins_with slash path then [] else c.current

unfoldable pub kind_at : Content → Key → Option Kind
kind_at c k = option_map (λ e. e.1) (find (λ e. same_key k e.0) c.kinds)

-- a directory, even one that cannot be listed (`Shut`)
abbrev pub is_dir : Kind → Bool
is_dir Dir = true
is_dir (Shut kind) = true
is_dir Other = false

abbrev pub is_dir_at : Content → Key → Bool
is_dir_at c k = unwrap_or (option_map is_dir (kind_at c k)) false

-- the names are UTF-8 and proper, and the parent is a directory
abbrev pub is_placed : Content → Key × Kind → Bool
is_placed c e = list_all (λ name. is_utf8 name && is_proper name) e.0 && is_dir_at c (parent_key e.0)

-- no key occurs twice
abbrev pub are_distinct : List (Key × Kind) → Bool
are_distinct [] = true
are_distinct (e ∷ es) = not (list_any (λ f. same_key e.0 f.0) es) && are_distinct es

-- The content is well formed: its root and current directory are directories, each key is in a directory and has names
-- that are UTF-8 and proper, and no key occurs twice.
unfoldable pub is_content : Content → Bool
is_content c = is_dir_at c [] && is_dir_at c c.current && list_all (is_placed c) c.kinds && are_distinct c.kinds

-- the tree's content is known to be c, and c is well formed
abbrev pub IsTold : Option Content → Content → Type 0
IsTold known c = (known ≡ Some c) × (is_content c ≡ true)

-- the key of a name in k, if something is there
abbrev pub child_key : Content → Key → Text → Option Key
child_key c k name = if is_some (kind_at c (k ++ name ∷ [])) then Some (k ++ name ∷ []) else None

-- where a piece of a path leads from k: nowhere unless k is a directory
abbrev pub step : Content → Text → Key → Option Key
step c piece k =
    if not (is_dir_at c k) then None
    else if stays piece then Some k
    else if bytes_eq piece parent_dir then Some (parent_key k)
    else child_key c k piece

-- where pieces lead, one after another
abbrev pub steps : Content → Option Key → List Text → Option Key
steps c k ps = fold (λ at piece. option_and_then (step c piece) at) k ps

-- where a path leads; the empty path leads nowhere
unfoldable pub resolve : Content → Text → Option Key
resolve c path = if is_empty path then None else steps c (Some (origin c path)) (pieces path)

-- what a path leads to
abbrev pub kind_found : Content → Text → Option Kind
kind_found c path = option_and_then (kind_at c) (resolve c path)

abbrev pub look_of : Option Kind → Look
look_of None = look.Missing
look_of (Some Dir) = look.Dir
look_of (Some (Shut kind)) = look.Dir
look_of (Some Other) = look.Other

-- what a look at a path returns
unfoldable pub look_result : Content → Text → Look
look_result c path = look_of (kind_found c path)

-- an entry of a directory: its name, and whether it is a directory
abbrev pub DirEntry : Type 0
DirEntry = Text × Bool

abbrev pub only_name : Key → Option Text
only_name [] = None
only_name (n ∷ []) = Some n
only_name (m ∷ n ∷ ns) = None

-- the entry of a key in a listing of k, if the key is k and one more name
abbrev pub child_entry : Key → Key × Kind → Option DirEntry
child_entry k e = option_map (λ name. (name, is_dir e.1)) (option_and_then only_name (names_past k e.0))

unfoldable pub children : Content → Key → List DirEntry
children c k = filter_map (child_entry k) c.kinds

-- what a listing returns
pub data ListAnswer : Type 0 where
  Entries : List DirEntry → ListAnswer
  Fails : ErrorKind → ListAnswer
  NoDirectory : ListAnswer

abbrev pub list_of : Content → Key → Option Kind → ListAnswer
list_of c k None = NoDirectory
list_of c k (Some Dir) = Entries (children c k)
list_of c k (Some (Shut kind)) = Fails kind
list_of c k (Some Other) = NoDirectory

abbrev pub list_found : Content → Option Key → ListAnswer
list_found c None = NoDirectory
list_found c (Some k) = list_of c k (kind_at c k)

-- what a listing of a path returns
unfoldable pub list_result : Content → Text → ListAnswer
list_result c path = list_found c (resolve c path)

-- the first entry's name is not after the second's, in byte order
abbrev pub is_before : DirEntry → DirEntry → Bool
is_before e f = is_le (slice_cmp nat_cmp e.0 f.0)

abbrev pub insert_entry : DirEntry → List DirEntry → List DirEntry
insert_entry e [] = e ∷ []
insert_entry e (f ∷ fs) = if is_before e f then e ∷ f ∷ fs else f ∷ insert_entry e fs

-- the entries in ascending byte order of names
abbrev pub sorted_entries : List DirEntry → List DirEntry
sorted_entries [] = []
sorted_entries (e ∷ es) = insert_entry e (sorted_entries es)
