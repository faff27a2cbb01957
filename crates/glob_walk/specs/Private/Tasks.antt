-- What is left of the written listing for a task.
use Rattle.std.specs.Prelude.{◌≡◌, ℕ, ◌+◌, ◌<◌, Bool, true, false, if◌then◌else◌, List, [], ◌∷◌, length, drop, Option}
use Rattle.std.specs.Prelude.{Some, None, string_bytes, nat_le}
use Rattle.glob_text.specs.Text.{Text}
use Rattle.glob_walk.specs.Walks.{Mark, enter, look_up}
use Rattle.glob_tree.specs.Content.{Content, look_result}
use Rattle.glob_walk.specs.Components.{Recursive, Wild, component_kind, begins_recursive}
use Rattle.glob_text.specs.Pieces.{begins_with}
use Rattle.glob_text.specs.Characters.{dot}
use Rattle.glob_tree.specs.Looks.{is_there, is_directory}
use Rattle.glob_tree.specs.declared.tree.Look.{Look}
use Rattle.glob_walk.specs.declared.plan.Plan.{Plan}
use Rattle.glob_walk.specs.declared.task.Accepted.{Accepted}
use Rattle.glob_walk.specs.declared.task.Accepted.TheVariants as accepted
use Rattle.glob_walk.specs.declared.task.TaskState.{TaskState}
use Rattle.glob_walk.specs.declared.task.TaskState.TheVariants as state
use Rattle.glob_walk.specs.declared.task.Task.{Task}

-- the walk goes on after this look
abbrev pub is_accepted : Accepted → Look → Bool
is_accepted accepted.Any seen = true
is_accepted accepted.Present seen = is_there seen
is_accepted accepted.Nothing seen = false

-- what follows at a path, with the components from a number on
abbrev pub enter_from : {A : Type 0} → Content → Plan A → ℕ → Text → Bool → List Mark
enter_from c plan component = enter c plan.options plan.directories (drop component plan.components.items)

-- what follows at a path that has to be looked up, or that is known to be there
abbrev pub state_marks : {A : Type 0} → Content → Plan A → ℕ → Text → TaskState → List Mark
state_marks c plan component path (state.Unseen w) =
    look_up c (is_accepted w (look_result c path)) (enter_from c plan component) path
state_marks c plan component path (state.Seen d) = enter_from c plan component path d

abbrev pub task_marks : {A : Type 0} → Content → Plan A → Task A → List Mark
task_marks c plan t = state_marks c plan t.component (string_bytes t.path) t.state

abbrev pub next_marks : {A : Type 0} → Content → Plan A → Option (Task A) → List Mark
next_marks c plan None = []
next_marks c plan (Some t) = task_marks c plan t

-- what is reported as a directory is a directory
abbrev pub IsStateSound : Content → Text → TaskState → Type 0
IsStateSound c path (state.Unseen w) = Unit {0}
IsStateSound c path (state.Seen d) = d ≡ true → is_directory (look_result c path) ≡ true

abbrev pub IsNextSound : {A : Type 0} → Content → Option (Task A) → Type 0
IsNextSound c None = Unit {0}
IsNextSound c (Some t) = IsStateSound c (string_bytes t.path) t.state

-- how many items can come before the next unit
abbrev pub state_ready : Bool → TaskState → ℕ
state_ready last (state.Unseen w) = 0
state_ready last (state.Seen d) = if last then 1 else 0

abbrev pub next_ready : {A : Type 0} → Plan A → Option (Task A) → ℕ
next_ready plan None = 0
next_ready plan (Some t) = state_ready (nat_le (length plan.components.items) t.component) t.state

-- a directory is listed for the first component: one with wildcards, or a `**` that has no `**` right after it
abbrev pub IsOpened : Bool → List Text → Type 0
IsOpened recursive [] = ⊥
IsOpened false (t ∷ ts) = component_kind t ≡ Wild
IsOpened true (t ∷ ts) = (component_kind t ≡ Recursive) × (begins_recursive ts ≡ false)

-- The kinds of the entries do not matter: the component is the last one and not `**`, and files are wanted too.
pub record IgnoresKinds {A : Type 0} (plan : Plan A) (component : ℕ) (recursive : Bool) : Type 0 where
  pub single : recursive ≡ false
  pub last : drop (component + 1) plan.components.items ≡ []
  pub any : plan.directories ≡ false

-- A directory is listed for the component of this number, with the kinds of its entries or only their names.
pub record IsListedFor {A : Type 0} (plan : Plan A) (component : ℕ) (recursive kinds : Bool) : Type 0 where
  pub within : component < length plan.components.items
  pub opens : IsOpened recursive (drop component plan.components.items)
  pub names : kinds ≡ false → IgnoresKinds plan component recursive

-- the first component begins with a dot
abbrev pub is_dotted : List Text → Bool
is_dotted [] = false
is_dotted (t ∷ ts) = begins_with dot t
