-- What a step of a walk adds to the output and to the findings.
use Rattle.std.specs.Prelude.{◌≡◌, ◌⊎◌, ℕ, Bool, true, false, if◌then◌else◌, List, [], ◌++◌, Option, Result, Ok, Err, ⊤}
use Rattle.std.specs.Io.KnownBytes.{Appends}
use Rattle.std.specs.Path.{path_buf_bytes}
use Rattle.std.specs.declared.path.buf.PathBuf.{PathBuf}
use Rattle.glob_lines.specs.Lines.{ended_record}
use Rattle.glob_text.specs.Text.{Text}
use Rattle.glob_walk.specs.Walks.{Found, Unread, Outcome, Gives, LimitAt, NoMemory, outcome}
use Rattle.glob_walk.specs.declared.error.GlobError.{GlobError}
use Rattle.glob_walk.specs.declared.machine.Step.{Step}
use Rattle.glob_walk.specs.declared.machine.Step.TheVariants as step
use Rattle.glob_walk.specs.declared.ending.End.TheVariants as end
use Rattle.glob_console.specs.declared.find.findings.Findings.{Findings}

-- The bytes joined those that waited; the first of all these bytes were written, and the rest wait.
abbrev pub Queues : (old : Option (List ℕ)) → (waiting : List ℕ) → (new : Option (List ℕ)) → (waiting' : List ℕ)
    → (bytes : List ℕ) → Type 0
Queues old waiting new waiting' bytes =
    (written : List ℕ) × Appends old new written × (waiting ++ bytes ≡ written ++ waiting')

-- the record of an item of a walk; an error adds nothing
abbrev pub item_record : {A : Type 0} → (end : ℕ) → Result (PathBuf A) (GlobError A) → List ℕ
item_record end (Ok path) = ended_record end (path_buf_bytes path)
item_record end (Err error) = []

-- an item of a walk is wanted; errors always are
abbrev pub is_item_wanted : {A : Type 0} → (wanted : Text → Bool) → Result (PathBuf A) (GlobError A) → Bool
is_item_wanted wanted (Ok path) = wanted (path_buf_bytes path)
is_item_wanted wanted (Err error) = true

-- an item of a walk is a path
abbrev pub IsPath : {A : Type 0} → Result (PathBuf A) (GlobError A) → Type 0
IsPath (Ok path) = ⊤
IsPath (Err error) = ⊥

-- the findings after one more outcome of the walk
abbrev pub noting : Findings → Outcome → Findings
noting findings (Gives (Found path)) = record findings { has_path = true }
noting findings (Gives (Unread path kind)) = record findings { has_error = true }
noting findings (LimitAt path) = record findings { end = end.Limit }
noting findings NoMemory = record findings { end = end.Memory }

-- A wanted item adds its record and is noted, and other steps add nothing. After the last step nothing waits.
-- `IsAnswer` says what the choice may answer for an item.
abbrev pub StepWrites : {A : Type 0} → (end : ℕ)
    → (IsAnswer : Bool → Result (PathBuf A) (GlobError A) → Type 0) → Step A → (old new : Findings)
    → (Adds : List ℕ → Type 0) → (waiting : List ℕ) → Type 0
StepWrites end IsAnswer (step.Item item) old new Adds waiting =
    (IsAnswer true item × (new ≡ noting old (outcome item)) × Adds (item_record end item))
    ⊎ (IsAnswer false item × IsPath item × (new ≡ old) × Adds [])
StepWrites end IsAnswer step.Done old new Adds waiting = (new ≡ old) × Adds [] × (waiting ≡ [])
StepWrites end IsAnswer step.Look old new Adds waiting = (new ≡ old) × Adds []
StepWrites end IsAnswer step.List old new Adds waiting = (new ≡ old) × Adds []
StepWrites end IsAnswer step.ListNames old new Adds waiting = (new ≡ old) × Adds []

-- the bytes that a step of a walk adds
abbrev pub step_record : {A : Type 0} → (end : ℕ) → (wanted : Text → Bool) → Step A → List ℕ
step_record end wanted (step.Item item) = if is_item_wanted wanted item then item_record end item else []
step_record end wanted step.Done = []
step_record end wanted step.Look = []
step_record end wanted step.List = []
step_record end wanted step.ListNames = []
