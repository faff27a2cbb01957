-- What a walk still has to do, as a part of the written listing.
use Rattle.std.specs.Prelude.{ℕ, ◌+◌, ◌*◌, List, ◌++◌, length, reverse, flat_map, Option, Some, None, sum_by}
use Rattle.std.specs.List.{All}
use Rattle.glob_walk.specs.Machines.{Aim}
use Rattle.glob_walk.specs.Walks.{Mark}
use Rattle.glob_tree.specs.Content.{Content}
use Rattle.glob_walk.specs.declared.plan.Plan.{Plan}
use Rattle.glob_walk.specs.declared.task.Task.{Task}
use Rattle.glob_walk.specs.declared.task.TaskState.{TaskState}
use Rattle.glob_walk.specs.declared.task.TaskState.TheVariants as state
use Rattle.glob_walk.specs.declared.frame.Frame.{Frame}
use Rattle.glob_walk.specs.declared.stack.Stack.{Stack}
use Rattle.glob_walk.specs.Private.Depths.{AreDeep, IsFrameDeep, IsNextDeep, IsPlainOver}
use Rattle.glob_walk.specs.Private.Tasks.{next_marks, next_ready, IsNextSound}
use Rattle.glob_walk.specs.Private.Frames.{frame_marks, steps_left, unmet, IsFrameSound}

-- what a walk of the plan looks for
abbrev pub aim_of : {A : Type 0} → Plan A → Aim
aim_of plan = record {
  options = plan.options;
  rooted = plan.rooted;
  components = plan.components.items;
  directories = plan.directories;
}

-- from the last directory to the first
abbrev pub frames_marks : {A : Type 0} → Content → Plan A → List (Frame A) → List Mark
frames_marks c plan frames = flat_map (frame_marks c plan) (reverse frames)

-- what is left of the written listing
abbrev pub left : {A : Type 0} → Content → Stack A → List Mark
left c s = next_marks c s.plan s.next ++ frames_marks c s.plan s.frames.items

abbrev pub state_weight : TaskState → ℕ
state_weight (state.Unseen w) = 1
state_weight (state.Seen d) = 2

abbrev pub next_weight : {A : Type 0} → Option (Task A) → ℕ
next_weight None = 0
next_weight (Some t) = state_weight t.state

abbrev pub frame_weight : {A : Type 0} → Frame A → ℕ
frame_weight f = 3 * steps_left f + 1

-- a bound on the turns before the next question or item
abbrev pub weight : {A : Type 0} → Stack A → ℕ
weight s = next_weight s.next + sum_by frame_weight s.frames.items

-- how many items can come before the next unit
abbrev pub ready : {A : Type 0} → Stack A → ℕ
ready s = next_ready s.plan s.next + sum_by unmet s.frames.items

-- what is reported as a directory is a directory, and in a plain walk each directory is below the one before it
pub record AreSound {A : Type 0} (c : Content) (plan : Plan A) (frames : List (Frame A)) : Type 0 where
  pub entries : All (IsFrameSound c) frames
  pub deep : IsPlainOver c plan → AreDeep c plan 0 frames

pub record IsSound {A : Type 0} (c : Content) (s : Stack A) : Type 0 where
  pub next : IsNextSound c s.next
  pub deep : IsPlainOver c s.plan → IsNextDeep c s.plan (length s.frames.items) s.next
  pub frames : AreSound c s.plan s.frames.items

-- a directory may be put on top
pub record IsFitting {A : Type 0} (c : Content) (s : Stack A) (f : Frame A) : Type 0 where
  pub entries : IsFrameSound c f
  pub deep : IsPlainOver c s.plan → IsFrameDeep c s.plan (length s.frames.items) f
