use Rattle.glob_set.proofs.NeedLists.{HasBits-none, HasBits-with, HasClass-last}
use Rattle.glob_set.proofs.needs.need_of.Goals as goal

pub loop-number-init : goal.loop-number-init
loop-number-init g c = record { bits = HasBits-none _; small = tt; class = λ _. tt }

pub loop-number-preserved : goal.loop-number-preserved
loop-number-preserved g c = record {
  bits = HasBits-with c.args.pattern.now c.loop-number.number c.loop-number.bits _ _ c.loop-number.invariant.bits
      c.pair_at-class.ensures.pair c.with_class-bits.ensures;
  small = c.pair_at-class.ensures.small;
  class = HasClass-last c.args.pattern.now c.loop-number.number _ c.pair_at-class.ensures.pair;
}
