-- A walk driven through C.
use Rattle.std.specs.Prelude.{◌≡◌, ℕ, true, false, nat_eq, if◌then◌else◌, Ok, Err, List, [], Option, Some, None, ⊤}
use Rattle.std.specs.IoError.{error_kind}
use Rattle.std.specs.declared.alloc.Global.{Global}
use Rattle.std.specs.declared.io.ErrorKind.{ErrorKind}
use Rattle.glob_text.specs.Text.{Text}
use Rattle.glob_tree.specs.Answers.{entries_of, entry_count}
use Rattle.glob_tree.specs.Content.{Content, DirEntry, look_result}
use Rattle.glob_tree.specs.declared.tree.ListError.TheVariants.{Read}
use Rattle.glob_tree.specs.declared.tree.Look.{Look}
use Rattle.glob_tree.specs.declared.tree.Look.TheVariants as look
use Rattle.glob_walk.specs.Machines.{MachineState, Saying, AsksLook, AsksList, Says, Ends, StepCounts}
use Rattle.glob_walk.specs.Private.Walkers.{Walk}
use Rattle.glob_walk.specs.Walks.{Found, Unread, Gives, LimitAt, NoMemory}
use Rattle.glob_walk.specs.Questions.{IsSomeContent, IsListedIn, question_path}
use Rattle.glob_walk.specs.declared.machine.Answer.{Answer}
use Rattle.glob_walk.specs.declared.machine.Answer.TheVariants as answer
use Rattle.glob_c.specs.declared.session.Reply.{Reply}
use Rattle.glob_c.specs.declared.session.Reply.TheVariants as reply

-- what contracts see of a session: the walk, its last step, and what the caller has answered since
pub record Sitting : Type 0 where
  pub machine : MachineState (Walk Global)
  pub said : Saying
  pub reply : Reply

-- the number of a step
abbrev pub kind_of : Saying → ℕ
kind_of AsksLook = 0
kind_of (AsksList true) = 1
kind_of (AsksList false) = 2
kind_of (Says (Gives (Found path))) = 3
kind_of (Says (Gives (Unread path kind))) = 4
kind_of (Says (LimitAt path)) = 5
kind_of (Says NoMemory) = 6
kind_of Ends = 8

-- the path of an error; for the limit, the path where it was reached
abbrev pub error_path : Saying → Option Text
error_path (Says (Gives (Unread path kind))) = Some path
error_path (Says (LimitAt path)) = Some path
error_path _ = None

-- the answer that the machine gets: none yet while entries are being added
abbrev pub answer_of : Reply → Answer Global
answer_of (reply.Look seen) = answer.Look (Ok seen)
answer_of (reply.Listed r) = answer.List r
answer_of _ = answer.Nothing

-- if a question is open, the reply is the content's answer to it
abbrev pub RepliesTo : Saying → Reply → MachineState (Walk Global) → Content → Type 0
RepliesTo AsksLook (reply.Look seen) walk c = IsSomeContent c × (seen ≡ look_result c (question_path walk.asked))
RepliesTo (AsksList kinds) (reply.Listed r) walk c = IsListedIn walk.asked r c
RepliesTo _ _ walk c = IsSomeContent c

abbrev pub Replies : Sitting → Content → Type 0
Replies s c = RepliesTo s.said s.reply s.machine c

-- no question is open, or it was answered
abbrev pub IsAnswered : Saying → Reply → Type 0
IsAnswered AsksLook (reply.Look seen) = ⊤
IsAnswered AsksLook _ = ⊥
IsAnswered (AsksList kinds) (reply.Listed r) = ⊤
IsAnswered (AsksList kinds) _ = ⊥
IsAnswered _ _ = ⊤

-- how many entries were answered
abbrev pub entries_said : Saying → Reply → ℕ
entries_said (AsksList kinds) (reply.Listed r) = entry_count r
entries_said _ _ = 0

-- what the next step does to the counts, whatever was answered
pub record Counts (said : Saying) (r : Reply) (old : MachineState (Walk Global)) (s : Saying)
    (new : MachineState (Walk Global)) : Type 0 where
  pub answered : IsAnswered said r → StepCounts (entries_said said r) old s new
  pub waits : ¬ (IsAnswered said r) → (s ≡ said) × (new ≡ old)

-- if the reply is that the directory could not be listed, the next step reports it, with an error of the same kind
abbrev pub SaysUnread : Saying → Reply → MachineState (Walk Global) → Saying → Type 0
SaysUnread (AsksList kinds) (reply.Listed (Err (Read e))) old s = s ≡ Says (Gives (Unread (question_path old.asked) (error_kind e)))
SaysUnread _ _ old s = ⊤

-- the entries answered so far
abbrev pub entries_so_far : Reply → Option (List DirEntry)
entries_so_far (reply.Entries v) = Some (entries_of v.items)
entries_so_far _ = None

-- nothing was answered since the step; if entries are asked for, there are none yet
abbrev pub IsUnanswered : Saying → Reply → Type 0
IsUnanswered (AsksList kinds) r = entries_so_far r ≡ Some []
IsUnanswered _ r = r ≡ reply.Nothing

-- these entries are the answer
abbrev pub AreListed : List DirEntry → Reply → Type 0
AreListed es (reply.Listed (Ok v)) = entries_of v.items ≡ es
AreListed es _ = ⊥

-- the reply is that the directory could not be listed, with an error of this kind
abbrev pub IsUnread : ErrorKind → Reply → Type 0
IsUnread kind (reply.Listed (Err (Read e))) = error_kind e ≡ kind
IsUnread kind _ = ⊥

-- the look with this number
abbrev pub look_of : ℕ → Look
look_of n = if nat_eq n 0 then look.Dir else if nat_eq n 1 then look.Other else look.Missing

-- the session after a look was answered with this number
abbrev pub looked_at : ℕ → Sitting → Sitting
looked_at n s = record s { reply = reply.Look (look_of n) }
