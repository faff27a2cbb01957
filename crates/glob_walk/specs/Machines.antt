-- A walk that asks its caller: what contracts see of it, and what each step does.
use Rattle.std.specs.Prelude.{◌≡◌, ℕ, ◌+◌, ◌≤◌, Bool, true, false, List, [], ◌∷◌, ◌++◌, Option, Some, None, Result, is_some}
use Rattle.std.specs.IoError.{error_kind}
use Rattle.std.specs.declared.path.buf.PathBuf.{PathBuf}
use Rattle.glob_text.specs.Text.{Text}
use Rattle.glob_tree.specs.Content.{Content}
use Rattle.glob_pattern.specs.declared.options.MatchOptions.{MatchOptions}
use Rattle.glob_tree.specs.declared.tree.ListError.{ListError}
use Rattle.glob_tree.specs.declared.tree.ListError.TheVariants.{Read, Memory}
use Rattle.glob_walk.specs.Walks.{listing_from, Mark, Item, Work, Give, Unread, IsUpTo, Outcome, Gives, LimitAt, NoMemory}
use Rattle.glob_walk.specs.Walks.{outcome, refusal_end}
use Rattle.glob_walk.specs.Questions.{Question, IsLook, IsListWith, question_path}
use Rattle.glob_walk.specs.declared.error.GlobError.{GlobError}
use Rattle.glob_walk.specs.declared.machine.Step.{Step}
use Rattle.glob_walk.specs.declared.machine.Step.TheVariants as step

-- How far a walk has come is private, and has a type of its own. A caller knows two things about it: what is left of
-- the written listing over a content (the unit of an open question is charged), and whether the answers so far agree
-- with a content. This crate's type is `Walk A`; no statement depends on what it is.
pub record Progress : Type 1 where
  pub State : Type 0
  pub left : Content → State → List Mark
  pub Agrees : Content → State → Type 0

-- what a walk looks for; it never changes
pub record Aim : Type 0 where
  pub options : MatchOptions
  -- it starts at the root, instead of in the current directory
  pub rooted : Bool
  pub components : List Text
  -- only directories are given
  pub directories : Bool

-- the written listing of a walk that looks for this, over a content
abbrev pub listing_of : Content → Aim → List Mark
listing_of c aim = listing_from c aim.options aim.rooted aim.directories aim.components

-- what contracts see of a walk that asks its caller
pub record MachineState (P : Progress) : Type 0 where
  pub limit : ℕ
  -- the units of work that were charged, including the unit of an open question
  pub spent : ℕ
  -- the items that were given, including a refusal
  pub given : ℕ
  -- the directories that it listed and has not gone through
  pub kept : ℕ
  -- only `Done` follows
  pub over : Bool
  -- the question that is open
  pub asked : Option Question
  -- what it looks for
  pub aim : Aim
  -- how far it has come
  pub state : P.State

-- what is left of the written listing over a content
abbrev pub left_of : {P : Progress} → Content → MachineState P → List Mark
left_of {P} c walk = P.left c walk.state

-- The answers so far agree with the content. At first they agree with every content, and each answer that comes from
-- the content keeps it so.
abbrev pub Agrees : {P : Progress} → Content → MachineState P → Type 0
Agrees {P} c walk = P.Agrees c walk.state

-- a walk that has done nothing yet
pub record IsFresh {P : Progress} (most : ℕ) (walk : MachineState P) : Type 0 where
  pub limit : walk.limit ≡ most
  pub spent : walk.spent ≡ 0
  pub given : walk.given ≡ 0
  pub over : walk.over ≡ false
  pub asked : walk.asked ≡ None
  pub agrees : (c : Content) → Agrees c walk
  pub whole : (c : Content) → left_of c walk ≡ listing_of c walk.aim

-- What a step says: it asks for a look, or for a listing with kinds or only names; it gives an item or a refusal; or
-- nothing is left.
pub data Saying : Type 0 where
  AsksLook : Saying
  AsksList : (kinds : Bool) → Saying
  Says : Outcome → Saying
  Ends : Saying

abbrev pub saying : {A : Type 0} → Step A → Saying
saying step.Look = AsksLook
saying step.List = AsksList true
saying step.ListNames = AsksList false
saying (step.Item item) = Says (outcome item)
saying step.Done = Ends

-- what the next item of a walk says, or that there is none
abbrev pub next_saying : {A : Type 0} → Option (Result (PathBuf A) (GlobError A)) → Saying
next_saying (Some item) = Says (outcome item)
next_saying None = Ends

-- the item after a failed listing
abbrev pub list_error_outcome : (path : Text) → ListError → Outcome
list_error_outcome path (Read e) = Gives (Unread path (error_kind e))
list_error_outcome path Memory = NoMemory

-- the number of items that it gives
abbrev pub item_number : Saying → ℕ
item_number AsksLook = 0
item_number (AsksList kinds) = 0
item_number (Says o) = 1
item_number Ends = 0

-- only `Done` follows
abbrev pub is_last : Saying → Bool
is_last AsksLook = false
is_last (AsksList kinds) = false
is_last (Says o) = is_some (refusal_end o)
is_last Ends = true

-- the cost of the question that it asks
abbrev pub step_units : Saying → ℕ
step_units AsksLook = 1
step_units (AsksList kinds) = 1
step_units (Says o) = 0
step_units Ends = 0

-- the question that is open after a step
abbrev pub IsAskedAfter : Saying → Option Question → Type 0
IsAskedAfter AsksLook q = IsLook q
IsAskedAfter (AsksList kinds) q = IsListWith kinds q
IsAskedAfter (Says o) q = q ≡ None
IsAskedAfter Ends q = q ≡ None

-- What is charged for n entries in the answer: one unit each, and one for the next question. At a limit refusal the
-- whole limit is spent, which is less than the entries and one more unit.
abbrev pub IsCharged : {P : Progress} → ℕ → MachineState P → Saying → MachineState P → Type 0
IsCharged n old (Says (LimitAt path)) new = (new.spent ≡ new.limit) × (new.limit ≤ old.spent + n)
IsCharged n old s new = new.spent ≡ old.spent + n + step_units s

-- the counts up to a step, or up to the next item, whatever the answers
pub record Counts {P : Progress} (old : MachineState P) (s : Saying) (new : MachineState P) : Type 0 where
  pub limit : new.limit ≡ old.limit
  pub aim : new.aim ≡ old.aim
  pub grows : old.spent ≤ new.spent
  pub within : new.spent ≤ new.limit
  pub given : new.given ≡ old.given + item_number s
  pub few : new.given ≤ new.spent + 1
  pub ends : new.over ≡ is_last s
  pub stays : old.over ≡ true → (s ≡ Ends) × (new ≡ old)

-- the same for one step, with what it asks and charges
pub record StepCounts {P : Progress} (n : ℕ) (old : MachineState P) (s : Saying) (new : MachineState P) : Type 0 where
  pub counts : Counts old s new
  pub charged : IsCharged n old s new
  pub asks : IsAskedAfter s new.asked

-- For a content that gave the answers: these items were given. They and the charged units are a prefix of the written
-- listing, and the rest is what is left of the walk.
pub record HasGiven {P : Progress} (listing : List Mark) (c : Content) (given : List Item) (walk : MachineState P) : Type 0 where
  pub agrees : Agrees c walk
  pub going : walk.over ≡ false
  pub upto : IsUpTo listing walk.spent given (left_of c walk)

-- What each step says about the listing. A question leaves the items given as they are. An item is the next item of the
-- listing, and only the units before it are charged. `Done` comes after the last item, and nothing is left. If the limit
-- is reached, the next unit does not fit. If an allocation fails, what was charged is a prefix of the listing.
abbrev pub GivesNext : {P : Progress} → List Mark → Content → List Item → Saying → MachineState P → Type 0
GivesNext listing c given AsksLook walk = HasGiven listing c given walk
GivesNext listing c given (AsksList kinds) walk = HasGiven listing c given walk
GivesNext listing c given (Says (Gives item)) walk =
    HasGiven listing c (given ++ item ∷ []) walk × IsUpTo listing walk.spent given (Give item ∷ left_of c walk)
GivesNext listing c given (Says (LimitAt path)) walk =
    (walk.spent ≡ walk.limit) × (rest : List Mark) × IsUpTo listing walk.spent given (Work path ∷ rest)
GivesNext listing c given (Says NoMemory) walk = (rest : List Mark) × IsUpTo listing walk.spent given rest
GivesNext listing c given Ends walk = IsUpTo listing walk.spent given [] × (left_of c walk ≡ [])

-- the last charged unit is for a question at the path
pub record AsksNext (listing : List Mark) (given : List Item) (path : Text) (spent : ℕ) (left : List Mark) : Type 0 where
  pub before : ℕ
  pub unit : spent ≡ before + 1
  pub upto : IsUpTo listing before given (Work path ∷ left)

-- What one step does: to the counts, whatever the answer; and to the rest, for each content that gave the caller's
-- answers.
pub record StepGoes {P : Progress} (Fits : Content → Type 0) (n : ℕ) (old : MachineState P) (s : Saying) (new : MachineState P)
    : Type 0 where
  pub counts : StepCounts n old s new
  pub agrees : (c : Content) → Fits c → old.over ≡ false → Agrees c old → Agrees c new
  pub gives : (c : Content) → Fits c → (listing : List Mark) (given : List Item) → HasGiven listing c given old
      → GivesNext listing c given s new
  pub charges : (c : Content) → Fits c → (listing : List Mark) (given : List Item) → HasGiven listing c given old
      → step_units s ≡ 1 → AsksNext listing given (question_path new.asked) new.spent (left_of c new)
