-- What a slot owns.
use Rattle.std.specs.Prelude.{ℕ, List}
use base.Fml.{Fml, fsep, ftrue}
use denote.RattleType.{RattleType}
use denote.RawPtr.{Ptr}
use Rattle.std.specs.contracts.alloc.Global as heap
use Rattle.std.specs.declared.alloc.Global.{Global}
use Rattle.std.specs.contracts.impls.GlobalAllocator.TheImpl.{ghosts}
use Rattle.std.specs.declared.option.Option.{Option}
use Rattle.std.specs.declared.option.Option.TheVariants.{None, Some}
use Rattle.std_alloc.specs.Box.Ownership.{box_owns}
use Rattle.glob_pattern.specs.contracts.pattern.Pattern as pattern
use Rattle.glob_c.specs.Sessions.{Sitting}
use Rattle.glob_c.specs.contracts.session.Session as session

-- a pattern over the heap of the C library
abbrev pub PatternRow : RattleType
PatternRow = pattern.the_row heap.the_row ghosts

-- a walk over the heap of the C library
abbrev pub SessionRow : RattleType
SessionRow = session.the_row

-- the heap of the C library, as an allocator
abbrev pub c_heap : Global
c_heap = record { memory = record { seal = tt } }

-- the box of a value, or nothing
abbrev pub box_or_nothing : (R : RattleType) → Ptr → Option R.Denot → Fml
box_or_nothing R p None = ftrue
box_or_nothing R p (Some value) = box_owns (ghosts.dealloc_token c_heap) R p value

-- a slot owns the box of its pattern, or of its walk
abbrev pub slot_owns : Ptr → Option (List ℕ) → Option Sitting → Fml
slot_owns p text walk = fsep (box_or_nothing PatternRow p text) (box_or_nothing SessionRow p walk)
