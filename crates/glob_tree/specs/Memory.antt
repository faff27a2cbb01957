-- A tree in memory: which changes it accepts, and what they do to its content.
use Rattle.std.specs.Prelude.{◌≡◌, ℕ, ◌&&◌, not, if◌then◌else◌, [], ◌∷◌, ◌++◌, drop, bytes_eq, Option, Some, None}
use Rattle.std.specs.Prelude.{is_some, Result, Ok, Err, MatchResult, ⊤}
use Rattle.std.specs.List.{list_all}
use Rattle.std.specs.Path.{root_dir}
use Rattle.std.specs.declared.io.ErrorKind.{ErrorKind}
use Rattle.std.specs.declared.io.ErrorKind.TheVariants as error
use Rattle.std.specs.IoError.{error_kind}
use Rattle.glob_text.specs.Characters.{slash}
use Rattle.glob_text.specs.Text.{Text}
use Rattle.glob_text.specs.Pieces.{begins_with, pieces}
use Rattle.glob_tree.specs.Paths.{is_proper}
use Rattle.glob_tree.specs.Content.{Content, Key, parent_key, kind_at, is_dir_at, kind_found}
use Rattle.glob_tree.specs.declared.kind.Kind.{Kind}
use Rattle.glob_tree.specs.declared.kind.Kind.TheVariants.{Dir, Shut, Other}
use Rattle.glob_tree.specs.declared.tree.ListError.{ListError}
use Rattle.glob_tree.specs.declared.tree.ListError.TheVariants.{Read, Memory}
use Rattle.glob_tree.specs.declared.refusal.TreeRefusal.{TreeRefusal}
use Rattle.glob_tree.specs.declared.refusal.TreeRefusal.TheVariants as refusal

-- what contracts see of a tree in memory: its content, and how much was asked
pub record MemoryTree : Type 0 where
  pub content : Content
  pub asks : ℕ

-- an empty root, which is the current directory
abbrev pub empty_content : Content
empty_content = record { kinds = ([], Dir) ∷ []; current = [] }

-- the key that a path names: a separator, and proper names joined by separators
abbrev pub key_of : Text → Option Key
key_of path =
    if begins_with slash path && list_all is_proper (pieces (drop 1 path)) then Some (pieces (drop 1 path)) else None

-- the same, but `/` names the root
unfoldable pub directory_key : Text → Option Key
directory_key path = if bytes_eq path root_dir then Some [] else key_of path

-- why a key is not added: the path does not name a key, its parent is not a directory, or something is there
abbrev pub key_refusal : Content → Option Key → Option TreeRefusal
key_refusal c None = Some refusal.Improper
key_refusal c (Some k) =
    if not (is_dir_at c (parent_key k)) then Some refusal.NoParent
    else if is_some (kind_at c k) then Some refusal.Taken
    else None

unfoldable pub add_refusal : Content → Text → Option TreeRefusal
add_refusal c path = key_refusal c (key_of path)

-- the content with one more key
abbrev pub with_key : Content → Kind → Option Key → Content
with_key c kind None = c
with_key c kind (Some k) = record { kinds = c.kinds ++ (k, kind) ∷ []; current = c.current }

unfoldable pub content_with : Content → Text → Kind → Content
content_with c path kind = with_key c kind (key_of path)

-- why a key does not become the current directory
abbrev pub directory_refusal : Content → Option Key → Option TreeRefusal
directory_refusal c None = Some refusal.Improper
directory_refusal c (Some k) = if is_dir_at c k then None else Some refusal.NoDirectory

unfoldable pub current_refusal : Content → Text → Option TreeRefusal
current_refusal c path = directory_refusal c (directory_key path)

-- the content with another current directory
unfoldable pub with_current : Content → Option Key → Content
with_current c None = c
with_current c (Some k) = record { kinds = c.kinds; current = k }

-- a change is refused for the reason that applies; if no reason applies, it fails only because an allocation failed
abbrev pub IsChangeAnswer : Option TreeRefusal → Result (Unit {0}) TreeRefusal → Type 0
IsChangeAnswer (Some e) result = result ≡ Err e
IsChangeAnswer None result = MatchResult result (λ _. ⊤) (λ e. e ≡ refusal.Memory)

-- the kind of error with which listing this fails, if it does
abbrev pub kind_fault : Option Kind → Option ErrorKind
kind_fault None = Some error.NotFound
kind_fault (Some Dir) = None
kind_fault (Some (Shut kind)) = Some kind
kind_fault (Some Other) = Some error.NotADirectory

unfoldable pub list_fault : Content → Text → Option ErrorKind
list_fault c path = kind_fault (kind_found c path)

-- the error with which the listing must fail; if it need not fail, an allocation failure
abbrev pub IsFaultOf : Option ErrorKind → ListError → Type 0
IsFaultOf fault (Read e) = fault ≡ Some (error_kind e)
IsFaultOf fault Memory = fault ≡ None

-- the answer of a change that allocates nothing
abbrev pub change_answer : Option TreeRefusal → Result (Unit {0}) TreeRefusal
change_answer None = Ok tt
change_answer (Some e) = Err e
