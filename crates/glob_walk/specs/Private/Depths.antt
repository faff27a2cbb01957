-- How deep the directories of a plain walk over a content are: each is below the one before it.
use Rattle.std.specs.Prelude.{◌≡◌, ℕ, ◌+◌, ◌≤◌, Bool, true, false, List, [], ◌∷◌, length, drop, Option, Some, None}
use Rattle.std.specs.Prelude.{string_bytes, Contains, IsTrue}
use Rattle.glob_text.specs.Text.{Text}
use Rattle.glob_tree.specs.Answers.{entries_of}
use Rattle.glob_tree.specs.Content.{Content, Key, DirEntry, is_content, kind_at, look_result, resolve}
use Rattle.glob_tree.specs.Paths.{child}
use Rattle.glob_tree.specs.declared.kind.Kind.{Kind}
use Rattle.glob_walk.specs.Goal.{are_plain}
use Rattle.glob_walk.specs.Private.Tasks.{is_accepted, IsOpened}
use Rattle.glob_walk.specs.declared.frame.Frame.{Frame}
use Rattle.glob_walk.specs.declared.frame.Cursor.{Cursor}
use Rattle.glob_walk.specs.declared.frame.Cursor.TheVariants as cursor
use Rattle.glob_walk.specs.declared.plan.Plan.{Plan}
use Rattle.glob_walk.specs.declared.query.Query.{Query}
use Rattle.glob_walk.specs.declared.query.QueryKind.{QueryKind}
use Rattle.glob_walk.specs.declared.query.QueryKind.TheVariants as kind
use Rattle.glob_walk.specs.declared.task.Accepted.{Accepted}
use Rattle.glob_walk.specs.declared.task.Task.{Task}
use Rattle.glob_walk.specs.declared.task.TaskState.{TaskState}
use Rattle.glob_walk.specs.declared.task.TaskState.TheVariants as state

-- the path leads to a key of at least n names
pub record IsDeepPath (c : Content) (n : ℕ) (path : Text) : Type 0 where
  pub key : Key
  pub kind : Kind
  pub leads : resolve c path ≡ Some key
  pub held : kind_at c key ≡ Some kind
  pub deep : n ≤ length key

-- the same, if the walk goes on at the path after a look
abbrev pub IsDeepIf : Content → ℕ → Accepted → Text → Type 0
IsDeepIf c n w path = is_accepted w (look_result c path) ≡ true → IsDeepPath c n path

-- the components from this number on are plain
abbrev pub IsPlainFrom : {A : Type 0} → Plan A → ℕ → Type 0
IsPlainFrom plan number = IsTrue (are_plain false (drop number plan.components.items))

-- a plan of a plain pattern, over a well-formed content
pub record IsPlainOver {A : Type 0} (c : Content) (plan : Plan A) : Type 0 where
  pub content : IsTrue (is_content c)
  pub plain : IsPlainFrom plan 0

-- a directory is listed for the component of this number, which is plain
pub record IsPlainAt {A : Type 0} (plan : Plan A) (recursive : Bool) (component : ℕ) : Type 0 where
  pub opens : IsOpened recursive (drop component plan.components.items)
  pub plain : IsPlainFrom plan component

abbrev pub IsStateDeep : Content → ℕ → Text → TaskState → Type 0
IsStateDeep c n path (state.Unseen w) = IsDeepIf c n w path
IsStateDeep c n path (state.Seen d) = IsDeepPath c n path

pub record IsTaskDeep {A : Type 0} (c : Content) (plan : Plan A) (n : ℕ) (component : ℕ) (path : Text) (s : TaskState) : Type 0 where
  pub plain : IsPlainFrom plan component
  pub deep : IsStateDeep c n path s

abbrev pub IsNextDeep : {A : Type 0} → Content → Plan A → ℕ → Option (Task A) → Type 0
IsNextDeep c plan n None = Unit {0}
IsNextDeep c plan n (Some t) = IsTaskDeep c plan n t.component (string_bytes t.path) t.state

abbrev pub IsKindDeep : Content → ℕ → Text → QueryKind → Type 0
IsKindDeep c n path (kind.Look w) = IsDeepIf c n w path
IsKindDeep c n path (kind.List recursive kinds) = IsDeepPath c n path

pub record IsAskedDeep {A : Type 0} (c : Content) (plan : Plan A) (n : ℕ) (q : Query A) : Type 0 where
  pub plain : IsPlainFrom plan q.component
  pub deep : IsKindDeep c n (string_bytes q.path) q.kind

abbrev pub IsQueryDeep : {A : Type 0} → Content → Plan A → ℕ → Option (Query A) → Type 0
IsQueryDeep c plan n None = Unit {0}
IsQueryDeep c plan n (Some q) = IsAskedDeep c plan n q

-- before `..` or `.`
abbrev pub is_special : Cursor → Bool
is_special cursor.Parent = true
is_special cursor.Current = true
is_special (cursor.At i) = false
is_special (cursor.Inside i) = false

-- a directory with at least n names: its entries have one more
pub record IsFrameDeep {A : Type 0} (c : Content) (plan : Plan A) (n : ℕ) (f : Frame A) : Type 0 where
  pub at : IsPlainAt plan f.recursive f.component
  pub entries : (e : DirEntry) → Contains (entries_of f.entries.items) e → IsDeepPath c (n + 1) (child (string_bytes f.path) e.0)
  pub named : is_special f.cursor ≡ false

-- each directory has at least as many names as there are directories before it
abbrev pub AreDeep : {A : Type 0} → Content → Plan A → ℕ → List (Frame A) → Type 0
AreDeep c plan n [] = Unit {0}
AreDeep c plan n (f ∷ fs) = IsFrameDeep c plan n f × AreDeep c plan (n + 1) fs
