-- What a walk still has to do: the open question, and then the stack; and what holds between two steps.
use Rattle.std.specs.Prelude.{◌≡◌, ℕ, ◌+◌, ◌≤◌, ◌<◌, ◌^◌, Bool, true, false, None, List, length, ◌++◌}
use Rattle.glob_walk.specs.Walks.{Mark}
use Rattle.glob_tree.specs.Content.{Content}
use Rattle.glob_walk.specs.Machines.{Progress}
use Rattle.glob_walk.specs.declared.walker.Walker.{Walker}
use Rattle.glob_walk.specs.Private.Depths.{IsPlainOver, IsQueryDeep}
use Rattle.glob_walk.specs.Private.Queries.{query_marks, query_ready, IsQuerySound, IsQueryOpened}
use Rattle.glob_walk.specs.Private.Stacks.{left, ready, IsSound}

-- what is left of the written listing
abbrev pub walk_left : {A : Type 0} → Content → Walker A → List Mark
walk_left c w = query_marks c w.stack.plan w.query ++ left c w.stack

-- how many items can come before the next unit
abbrev pub walk_ready : {A : Type 0} → Walker A → ℕ
walk_ready w = query_ready w.query + ready w.stack

-- what is reported as a directory is a directory, and in a plain walk each directory is below the one before it
pub record IsWalkSound {A : Type 0} (c : Content) (w : Walker A) : Type 0 where
  pub query : IsQuerySound c w.query
  pub deep : IsPlainOver c w.stack.plan → IsQueryDeep c w.stack.plan (length w.stack.frames.items) w.query
  pub stack : IsSound c w.stack

-- what contracts know of a walker
abbrev pub Walk : Type 0 → Progress
Walk A = record { State = Walker A; left = walk_left; Agrees = IsWalkSound }

-- what holds for a walk that is not over
pub record IsUnderWay {A : Type 0} (w : Walker A) (given : ℕ) : Type 0 where
  pub ready : given + walk_ready w ≤ w.meter.spent
  pub opened : IsQueryOpened w.stack w.query

-- what holds for every walk between two steps
pub record IsGood {A : Type 0} (w : Walker A) (given : ℕ) (over : Bool) : Type 0 where
  pub fits : w.meter.limit < 2 ^ 64
  pub few : given ≤ w.meter.spent + 1
  pub going : over ≡ false → IsUnderWay w given
  pub ended : over ≡ true → w.query ≡ None
