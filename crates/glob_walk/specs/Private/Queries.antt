-- What is left of the written listing for an open question. Its unit is charged.
use Rattle.std.specs.Prelude.{◌≡◌, ℕ, true, List, [], drop, Option, Some, None, string_bytes}
use Rattle.glob_text.specs.Text.{Text}
use Rattle.glob_tree.specs.Content.{Content, look_result}
use Rattle.glob_tree.specs.Looks.{is_directory}
use Rattle.glob_walk.specs.Walks.{Mark, look_up}
use Rattle.glob_walk.specs.Questions.{Question, LookAt, ListAt}
use Rattle.glob_walk.specs.Private.Tasks.{enter_from, is_accepted, IsListedFor}
use Rattle.glob_walk.specs.declared.plan.Plan.{Plan}
use Rattle.glob_walk.specs.declared.query.Query.{Query}
use Rattle.glob_walk.specs.declared.query.QueryKind.{QueryKind}
use Rattle.glob_walk.specs.declared.query.QueryKind.TheVariants as kind
use Rattle.glob_walk.specs.declared.stack.Stack.{Stack}

-- what contracts see of the question
abbrev pub asked_of : Text → QueryKind → Question
asked_of path (kind.Look w) = LookAt path
asked_of path (kind.List recursive kinds) = ListAt kinds path

abbrev pub question_of : {A : Type 0} → Option (Query A) → Option Question
question_of None = None
question_of (Some q) = Some (asked_of (string_bytes q.path) q.kind)

-- what follows at the path after the answer
abbrev pub kind_marks : {A : Type 0} → Content → Plan A → ℕ → Text → QueryKind → List Mark
kind_marks c plan component path (kind.Look w) =
    drop 1 (look_up c (is_accepted w (look_result c path)) (enter_from c plan component) path)
kind_marks c plan component path (kind.List recursive kinds) = drop 1 (enter_from c plan component path true)

abbrev pub query_marks : {A : Type 0} → Content → Plan A → Option (Query A) → List Mark
query_marks c plan None = []
query_marks c plan (Some q) = kind_marks c plan q.component (string_bytes q.path) q.kind

-- a path that is listed is a directory
abbrev pub IsKindSound : Content → Text → QueryKind → Type 0
IsKindSound c path (kind.Look w) = Unit {0}
IsKindSound c path (kind.List recursive kinds) = is_directory (look_result c path) ≡ true

abbrev pub IsQuerySound : {A : Type 0} → Content → Option (Query A) → Type 0
IsQuerySound c None = Unit {0}
IsQuerySound c (Some q) = IsKindSound c (string_bytes q.path) q.kind

-- a directory is listed for a component of the plan
abbrev pub IsKindOpened : {A : Type 0} → Plan A → ℕ → QueryKind → Type 0
IsKindOpened plan component (kind.Look w) = Unit {0}
IsKindOpened plan component (kind.List recursive kinds) = IsListedFor plan component recursive kinds

-- and no item is ready before the query
abbrev pub IsQueryOpened : {A : Type 0} → Stack A → Option (Query A) → Type 0
IsQueryOpened s None = Unit {0}
IsQueryOpened s (Some q) = (s.next ≡ None) × IsKindOpened s.plan q.component q.kind

-- how many items can come before the next unit
abbrev pub query_ready : {A : Type 0} → Option (Query A) → ℕ
query_ready None = 0
query_ready (Some q) = 1
