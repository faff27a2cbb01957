-- What a call does to the walk of a slot.
use Rattle.std.specs.Prelude.{◌≡◌, ℕ, List, []}
use Rattle.std.specs.declared.io.ErrorKind.{ErrorKind}
use Rattle.glob_tree.specs.Content.{Content, DirEntry}
use Rattle.glob_walk.specs.Machines.{Ends, HasGiven, GivesNext}
use Rattle.glob_walk.specs.Walks.{Item, Mark}
use Rattle.std.specs.declared.option.Option.{Option}
use Rattle.std.specs.declared.option.Option.TheVariants.{None, Some}
use Rattle.glob_c.specs.Sessions.{Sitting, Counts, entries_so_far, kind_of, AreListed, IsUnanswered, IsUnread, SaysUnread}

-- the slot has a walk over this listing that has not started
abbrev pub IsBegun : List Mark → Content → Option Sitting → Type 0
IsBegun all c None = ⊥
IsBegun all c (Some s) = HasGiven all c [] s.machine × (s.said ≡ Ends)

-- the slot has a walk with this limit of units, and none is spent yet
abbrev pub HasLimit : ℕ → Option Sitting → Type 0
HasLimit most None = ⊥
HasLimit most (Some s) = (s.machine.limit ≡ most) × (s.machine.spent ≡ 0)

-- the slot has the walk after its next step, which has this number
abbrev pub IsAdvanced : List Mark → Content → List Item → ℕ → Option Sitting → Type 0
IsAdvanced all c given kind None = ⊥
IsAdvanced all c given kind (Some s) = (kind ≡ kind_of s.said) × GivesNext all c given s.said s.machine

-- the slot has the walk after one more step, with its counts
abbrev pub IsCounted : Sitting → Option Sitting → Type 0
IsCounted old None = ⊥
IsCounted old (Some s) = Counts old.said old.reply old.machine s.said s.machine

-- the slot has a walk whose last step has this number
abbrev pub HasStep : ℕ → Option Sitting → Type 0
HasStep kind None = ⊥
HasStep kind (Some s) = kind ≡ kind_of s.said

-- the slot has a walk, and nothing was answered since its last step
abbrev pub HasNoAnswer : Option Sitting → Type 0
HasNoAnswer None = ⊥
HasNoAnswer (Some s) = IsUnanswered s.said s.reply

-- the slot has the walk after one more step, which says so if the directory could not be listed
abbrev pub IsToldUnread : Sitting → Option Sitting → Type 0
IsToldUnread old None = ⊥
IsToldUnread old (Some s) = SaysUnread old.said old.reply old.machine s.said

-- these entries were answered so far
abbrev pub HasEntries : Sitting → List DirEntry → Option Sitting → Type 0
HasEntries old es None = ⊥
HasEntries old es (Some s) = (s.machine ≡ old.machine) × (s.said ≡ old.said) × (entries_so_far s.reply ≡ Some es)

-- these entries are the answer
abbrev pub HasListed : Sitting → List DirEntry → Option Sitting → Type 0
HasListed old es None = ⊥
HasListed old es (Some s) = (s.machine ≡ old.machine) × (s.said ≡ old.said) × AreListed es s.reply

-- the reply is that the directory could not be listed, with an error of this kind
abbrev pub HasUnread : Sitting → ErrorKind → Option Sitting → Type 0
HasUnread old kind None = ⊥
HasUnread old kind (Some s) = (s.machine ≡ old.machine) × (s.said ≡ old.said) × IsUnread kind s.reply
