-- A walk that asks its caller, from its start.
use Rattle.std.specs.Prelude.{ℕ, List, []}
use Rattle.glob_tree.specs.Content.{Content}
use Rattle.glob_walk.specs.Machines.{MachineState, Progress, IsFresh, HasGiven, listing_of}
use Rattle.glob_walk.specs.Walks.{Mark, Item, items, IsBeginning}

-- A new walk has given nothing of its listing, and what a walk has given is a prefix of the listing's items. So a
-- caller's proof keeps `HasGiven` from step to step, for a content whose answers it gives.
pub record DrivesListing (P : Progress) : Type 0 where
  pub fresh : (most : ℕ) (c : Content) (walk : MachineState P) → IsFresh most walk → HasGiven (listing_of c walk.aim) c [] walk
  pub begins : (listing : List Mark) (c : Content) (given : List Item) (walk : MachineState P)
      → HasGiven listing c given walk → IsBeginning given (items listing)
