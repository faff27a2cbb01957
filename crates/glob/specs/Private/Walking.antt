-- What holds for a walk over a tree between two items, and for a whole walk.
use Rattle.std.specs.Prelude.{◌≡◌, ℕ, ◌+◌, ◌≤◌, false, List, [], length, Option, None, Result}
use Rattle.std.specs.declared.path.buf.PathBuf.{PathBuf}
use Rattle.glob_tree.specs.Content.{Content}
use Rattle.glob_tree.specs.Answers.{IsTold}
use Rattle.glob_walk.specs.Walks.{Mark, Item, HasNoRefusal, IsWalk, IsWalkAsked}
use Rattle.glob_walk.specs.Iterating.{Walking}
use Rattle.glob_walk.specs.declared.error.GlobError.{GlobError}
use Rattle.glob_walk.specs.declared.ending.End.{End}
use Rattle.glob_walk.specs.Machines.{MachineState, Progress, HasGiven, listing_of}

-- What holds for a walk over a tree between two items: no question is open, and some items of the written listing for
-- the tree's content were given.
pub record IsDriven {X : Type 0} {P : Progress} (tells : X → Option Content) (tree : X) (machine : MachineState P) : Type 0 where
  pub free : machine.asked ≡ None
  pub gave : (c : Content) → IsTold (tells tree) c → machine.over ≡ false
      → (given : List Item) × HasGiven (listing_of c machine.aim) c given machine

-- What a whole walk leaves: its items, what it spent and asked, and the tree.
pub record EndsAs {X A : Type 0} {P : Progress} (asks : X → ℕ) (tells : X → Option Content) (first : Walking X P) (e : End) (spent : ℕ)
    (answers : List (Result (PathBuf A) (GlobError A))) (tree : X) : Type 0 where
  pub within : spent ≤ first.machine.limit
  pub asked : IsWalkAsked first.machine.limit (asks first.tree) e spent (asks tree)
  pub content : tells tree ≡ tells first.tree
  pub items : HasNoRefusal answers
  pub few : length answers ≤ spent + 1
  pub walk : (c : Content) → IsTold (tells first.tree) c → (ms : List Mark) → HasGiven ms c [] first.machine
      → IsWalk ms first.machine.limit e spent answers
