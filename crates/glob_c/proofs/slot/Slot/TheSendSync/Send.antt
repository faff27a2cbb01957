-- A slot owns the same in every thread.
use mir.Raw.{raw}
use base.Fraction.{full_share}
use base.Shift.{Keyless}
use denote.Memory.{lone}
use denote.Param.Send.{IsSend, part_keyless}
use denote.RattleType.{RattleType}
use denote.RawPtr.{Ptr, block_ptr, null_ptr}
use Rattle.std.proofs.Crossing.{frees, send as heap_send}
use Rattle.std.specs.declared.option.Option.{Option}
use Rattle.std.specs.declared.option.Option.TheVariants.{None, Some}
use Rattle.std.specs.contracts.alloc.Global as heap
use Rattle.std.specs.contracts.impls.GlobalAllocator.TheImpl.{ghosts}
use Rattle.glob_pattern.proofs.pattern.Pattern.TheSendSync as pattern
use Rattle.glob_c.specs.Slots.{PatternRow, SessionRow, c_heap, box_or_nothing}
use Rattle.glob_c.specs.contracts.slot.Slot.{the_row}
use Rattle.glob_c.proofs.session.Session.TheSendSync as session

owned_keyless : (R : RattleType) → IsSend R → (p : Ptr) (value : Option R.Denot) → Keyless (box_or_nothing R p value)
owned_keyless R s p None = tt
owned_keyless R s null_ptr (Some x) = (tt, frees.frees c_heap (raw (lone R.mir)) null_ptr)
owned_keyless R s (block_ptr b o) (Some x) =
    (part_keyless R s full_share x b o, frees.frees c_heap (raw (lone R.mir)) (block_ptr b o))

pub send : IsSend the_row
send = record {
  owned = λ s vs. (
    (λ vss. (tt, (tt, tt))),
    (
      owned_keyless PatternRow (pattern.the_send heap.the_row ghosts heap_send frees) s.at s.text,
      owned_keyless SessionRow session.the_send s.at s.walk,
    ),
  );
  leaving = λ k d w. tt;
}
