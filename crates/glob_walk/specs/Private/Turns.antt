-- One turn of a walk, against the written listing.
use Rattle.std.specs.Prelude.{◌≡◌, ℕ, ◌+◌, ◌≤◌, Bool, Option, Some, None, List, [], ◌∷◌, ◌++◌, length, map, String, ⊤}
use Rattle.glob_text.specs.Text.{Text}
use Rattle.glob_walk.specs.Walks.{Mark, Work, Give, Gives, LimitAt, NoMemory}
use Rattle.glob_walk.specs.Questions.{Question, IsLook, IsListWith, IsSomeContent, question_path}
use Rattle.glob_walk.specs.Machines.{Saying, AsksLook, AsksList, Says, Ends, item_number, saying, step_units}
use Rattle.glob_tree.specs.Content.{Content, list_result}
use Rattle.glob_tree.specs.Answers.{IsEntriesAnswer, entries_of}
use Rattle.glob_tree.specs.declared.tree.Entry.{Entry}
use Rattle.glob_walk.specs.declared.machine.Step.{Step}
use Rattle.glob_walk.specs.declared.meter.Meter.{Meter}
use Rattle.glob_walk.specs.declared.query.Query.{Query}
use Rattle.glob_walk.specs.declared.query.QueryKind.{QueryKind}
use Rattle.glob_walk.specs.declared.query.QueryKind.TheVariants as kind
use Rattle.glob_walk.specs.declared.stack.Stack.{Stack}
use Rattle.glob_walk.specs.declared.task.TaskState.{TaskState}
use Rattle.glob_walk.specs.declared.walker.Walker.{Walker}
use Rattle.glob_walk.specs.Private.Queries.{question_of, IsQueryOpened}
use Rattle.glob_walk.specs.Private.Walkers.{walk_left, walk_ready, IsWalkSound}

-- what a turn says, unless the walk just goes on
abbrev pub said : {A : Type 0} → Option (Step A) → Option Saying
said None = None
said (Some s) = Some (saying s)

-- what a question says
abbrev pub asking : QueryKind → Saying
asking (kind.Look w) = AsksLook
asking (kind.List recursive kinds) = AsksList kinds

-- one unit of work at each of these paths
abbrev pub works : List Text → List Mark
works paths = map Work paths

-- units were charged, and this comes after them
pub record Charges (left : List Mark) (spent : ℕ) (after : List Mark) (spent' : ℕ) : Type 0 where
  pub paths : List Text
  pub front : left ≡ works paths ++ after
  pub units : spent' ≡ spent + length paths

-- the next unit is for the path, and those before it were charged
pub record StopsAt (left : List Mark) (spent : ℕ) (path : Text) (spent' : ℕ) : Type 0 where
  pub rest : List Mark
  pub charges : Charges left spent (Work path ∷ rest) spent'

-- units were charged, and anything may come after them
pub record BreaksOff (left : List Mark) (spent : ℕ) (spent' : ℕ) : Type 0 where
  pub rest : List Mark
  pub charges : Charges left spent rest spent'

-- the next unit is for the path; it and those before it were charged
pub record ChargesNext (left : List Mark) (spent : ℕ) (path : Text) (after : List Mark) (spent' : ℕ) : Type 0 where
  pub before : ℕ
  pub charges : Charges left spent (Work path ∷ after) before
  pub unit : spent' ≡ before + 1

-- what a step takes from the front of what was left
abbrev pub TakesStep : (old : List Mark) → (spent : ℕ) → Saying → Option Question → (new : List Mark) → (spent' : ℕ)
    → Type 0
TakesStep old spent AsksLook q new spent' = ChargesNext old spent (question_path q) new spent'
TakesStep old spent (AsksList kinds) q new spent' = ChargesNext old spent (question_path q) new spent'
TakesStep old spent (Says (Gives item)) q new spent' = Charges old spent (Give item ∷ new) spent'
TakesStep old spent (Says (LimitAt path)) q new spent' = StopsAt old spent path spent'
TakesStep old spent (Says NoMemory) q new spent' = BreaksOff old spent spent'
TakesStep old spent Ends q new spent' = Charges old spent [] spent' × (new ≡ [])

-- what a turn takes from the front of what was left, and what it then asks
abbrev pub TurnOf : List Mark → ℕ → Option Saying → Option Question → List Mark → ℕ → Type 0
TurnOf old spent None q new spent' = Charges old spent new spent'
TurnOf old spent (Some s) q new spent' = TakesStep old spent s q new spent'

-- the counts of a turn, with n entries in the answer
abbrev pub TurnCounts : ℕ → Meter → Option Saying → Meter → Type 0
TurnCounts n old None new = new.spent ≡ old.spent + n
TurnCounts n old (Some (Says (LimitAt path))) new = (new.spent ≡ new.limit) × (new.limit ≤ old.spent + n)
TurnCounts n old (Some s) new = new.spent ≡ old.spent + n + step_units s

-- the number of items that a turn gives
abbrev pub said_items : Option Saying → ℕ
said_items None = 0
said_items (Some s) = item_number s

-- P holds, unless a refusal ended the walk
abbrev pub IfGoing : Option Saying → Type 0 → Type 0
IfGoing (Some (Says (LimitAt path))) P = ⊤
IfGoing (Some (Says NoMemory)) P = ⊤
IfGoing _ P = P

-- the question that is open after a turn
abbrev pub IsAskedBy : {A : Type 0} → Option Saying → Stack A → Option (Query A) → Type 0
IsAskedBy (Some AsksLook) s q = IsLook (question_of q) × IsQueryOpened s q
IsAskedBy (Some (AsksList kinds)) s q = IsListWith kinds (question_of q) × IsQueryOpened s q
IsAskedBy _ s q = q ≡ None

-- A turn takes a walk from one state to another, with n entries in the answer. `sound` and `takes` are about the
-- contents that fit the answer; the other fields hold for every answer.
pub record TurnsTo {A : Type 0} (Fits : Content → Type 0) (n : ℕ) (old : Walker A) (t : Option Saying) (new : Walker A) : Type 0 where
  pub limit : new.meter.limit ≡ old.meter.limit
  pub grows : old.meter.spent ≤ new.meter.spent
  pub counts : TurnCounts n old.meter t new.meter
  pub plan : new.stack.plan ≡ old.stack.plan
  pub asks : IsAskedBy t new.stack new.query
  -- the items that can come before the next unit are at most as many as before, plus one for each charged unit
  pub ready : IfGoing t (walk_ready new + said_items t + old.meter.spent ≤ walk_ready old + new.meter.spent)
  -- what was reported as a directory stays one
  pub sound : IfGoing t ((c : Content) → Fits c → IsWalkSound c old → IsWalkSound c new)
  -- what was left starts with what the turn takes
  pub takes : (c : Content) → Fits c → IsWalkSound c old
      → TurnOf (walk_left c old) old.meter.spent t (question_of new.query) (walk_left c new) new.meter.spent

-- no question is open, and there is no task
abbrev pub IsIdle : {A : Type 0} → Walker A → Type 0
IsIdle w = (w.query ≡ None) × (w.stack.next ≡ None)

-- the walk with this task and no open question
abbrev pub with_task : {A : Type 0} → String A → ℕ → TaskState → Walker A → Walker A
with_task path component state w =
    record w { query = None; stack = record w.stack { next = Some (record { path = path; component = component; state = state }) } }

-- the walk with this open question and no task
abbrev pub with_query : {A : Type 0} → String A → ℕ → QueryKind → Walker A → Walker A
with_query path component kind w =
    record w { query = Some (record { path = path; component = component; kind = kind }); stack = record w.stack { next = None } }

-- the content lists these entries at the path, with their kinds or only their names
abbrev pub AreListedAt : {A : Type 0} → Bool → Text → List (Entry A) → Content → Type 0
AreListedAt kinds path es c = IsSomeContent c × IsEntriesAnswer kinds (list_result c path) (entries_of es)
