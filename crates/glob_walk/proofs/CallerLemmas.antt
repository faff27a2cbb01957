-- What a caller's proof needs to know about the definitions of a whole walk, which are opaque in its goals.
use Rattle.std.proofs.Common.{◌≡◌, ℕ, ◌+◌, ◌<◌, ◌≤◌, List, Option, Result, IsTrue}
use Rattle.std.specs.declared.path.buf.PathBuf.{PathBuf}
use Rattle.glob_text.specs.Text.{Text}
use Rattle.glob_tree.specs.Content.{Content}
use Rattle.glob_tree.specs.Answers.{IsTold}
use Rattle.glob_pattern.specs.declared.options.MatchOptions.{MatchOptions}
use Rattle.glob_walk.specs.Goal.{is_plain, is_readable, IsOrderly, FindsGoal, FindsExactly}
use Rattle.glob_walk.specs.Goal.{FindsTaken, goal, ReachesTexts, GivesTexts}
use Rattle.glob_walk.specs.Walks.{Mark, Item, items, cost, front, paths, IsBeginning, AreItems, IsCutShort}
use Rattle.glob_walk.specs.Walks.{Answers, HasNoRefusal, IsWalk, IsWalkAsked}
use Rattle.glob_walk.specs.declared.error.GlobError.{GlobError}
use Rattle.glob_walk.proofs.ListingLemmas.Marks.{IsBeginning-cut}
use Rattle.glob_walk.specs.declared.ending.End.{End}
use Rattle.glob_walk.specs.declared.ending.End.TheVariants.{Done, Limit, Memory}
-- What a machine has given at the start and at its end.
pub use Rattle.glob_walk.proofs.WalkLemmas.Giving.{given_fresh, upto_end, upto_limit, upto_cut}

module _ {A : Type 0} (known : Option Content) (o : MatchOptions) (pattern : Text) (end : End) (answers : Answers A) where
  -- Each path is a goal, and if the walk is done, each goal is a path or is hidden.
  pub found_goal : FindsGoal known o pattern end answers → (c : Content) (is : List Item) → IsTold known c → AreItems answers is
      → IsTrue (is_plain pattern) → IsTrue o.case_sensitive → ReachesTexts c pattern (goal c o pattern) (end ≡ Done) is
  unfolding FindsGoal
  found_goal finds = finds

  -- Over a readable content, the paths are exactly the goal.
  pub found_exactly : FindsExactly known o pattern end answers → (c : Content) (is : List Item) → IsTold known c → AreItems answers is
      → IsTrue (is_plain pattern) → IsTrue o.case_sensitive → IsTrue (is_readable c pattern) → end ≡ Done
      → GivesTexts (goal c o pattern) is
  unfolding FindsExactly
  found_exactly finds = finds

  -- Case-sensitively or not, the paths come once and in order, as far as the places of `**` allow.
  pub found_in_order : FindsTaken known o pattern end answers → (c : Content) (is : List Item) → IsTold known c → AreItems answers is
      → IsTrue (is_plain pattern) → IsOrderly pattern (paths is)
  unfolding FindsTaken
  found_in_order finds c is told are plain = (finds c is told are plain).2

module _ {A : Type 0} (answers : List (Result (PathBuf A) (GlobError A))) where
  -- Answers without a refusal are items.
  pub items_of_answers : HasNoRefusal answers → (is : List Item) × AreItems answers is
  unfolding HasNoRefusal
  items_of_answers has = has

  module _ (ms : List Mark) (limit spent : ℕ) where
    -- A walk that is done has all items of the listing, and its cost.
    pub done_walk : IsWalk ms limit Done spent answers → (cost ms ≤ limit) × (spent ≡ cost ms) × AreItems answers (items ms)
    unfolding IsWalk
    done_walk walk = walk

    -- A walk that ended at its limit has the items before the first unit that does not fit.
    pub limited_walk : IsWalk ms limit Limit spent answers → (limit < cost ms) × (spent ≡ limit) × AreItems answers (items (front limit ms))
    unfolding IsWalk
    limited_walk walk = walk

    -- A walk that ran out of memory has a prefix of the items.
    pub stopped_walk : IsWalk ms limit Memory spent answers → (is : List Item) × AreItems answers is × IsBeginning is
        (items ms) × IsCutShort ms spent is
    unfolding IsWalk
    stopped_walk walk = (walk.0, walk.1, IsBeginning-cut ms spent walk.0 walk.2, walk.2)

module _ (limit asks spent asks' : ℕ) where
  -- A walk that is done asked as much as it charged.
  pub asked_by_done_walk : IsWalkAsked limit asks Done spent asks' → asks' ≡ asks + spent
  unfolding IsWalkAsked
  asked_by_done_walk asked = asked

  -- A walk that ended at its limit spent it, and asked at least as much.
  pub asked_by_limited_walk : IsWalkAsked limit asks Limit spent asks' → (spent ≡ limit) × (asks + spent ≤ asks')
  unfolding IsWalkAsked
  asked_by_limited_walk asked = asked

  -- A walk that ran out of memory asked as much as it charged.
  pub asked_by_stopped_walk : IsWalkAsked limit asks Memory spent asks' → asks' ≡ asks + spent
  unfolding IsWalkAsked
  asked_by_stopped_walk asked = asked
