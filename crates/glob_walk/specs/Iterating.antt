-- A walk over a tree, item by item: what contracts see of it, and what a call of `next` does.
use Rattle.std.specs.Prelude.{◌≡◌, ℕ, ◌+◌, ◌≤◌, true, false, List, Option}
use Rattle.glob_tree.specs.Content.{Content}
use Rattle.glob_tree.specs.Answers.{IsTold}
use Rattle.glob_walk.specs.Machines.{MachineState, Progress, Saying, Says, Counts, HasGiven, GivesNext, listing_of}
use Rattle.glob_walk.specs.Walks.{Mark, Item, LimitAt}

-- what contracts see of a walk over a tree of the type X: the tree, and the machine that asks it
pub record Walking (X : Type 0) (P : Progress) : Type 0 where
  pub tree : X
  pub machine : MachineState P

-- the tree was asked as much as was charged; at a limit refusal at least as much, and the limit is spent
abbrev pub IsAsked : {X : Type 0} {P : Progress} → (X → ℕ) → Walking X P → Saying → Walking X P → Type 0
IsAsked asks old (Says (LimitAt path)) new =
    (new.machine.spent ≡ new.machine.limit)
    × (asks old.tree + new.machine.spent ≤ asks new.tree + old.machine.spent)
IsAsked asks old _ new = asks new.tree + old.machine.spent ≡ asks old.tree + new.machine.spent

-- What one call of `next` does: over every tree, to the counts; over a tree with known content, some items of the
-- written listing were given before, and this call returns the next one.
pub record Goes {X : Type 0} {P : Progress} (asks : X → ℕ) (tells : X → Option Content) (old : Walking X P) (s : Saying)
    (new : Walking X P) : Type 0 where
  pub counts : Counts old.machine s new.machine
  pub asked : IsAsked asks old s new
  pub content : tells new.tree ≡ tells old.tree
  pub stays : old.machine.over ≡ true → new.tree ≡ old.tree
  pub gave : (c : Content) → IsTold (tells old.tree) c → old.machine.over ≡ false
      → (given : List Item) × HasGiven (listing_of c old.machine.aim) c given old.machine
  pub gives : (c : Content) → IsTold (tells old.tree) c → (listing : List Mark) (given : List Item)
      → HasGiven listing c given old.machine → GivesNext listing c given s new.machine
