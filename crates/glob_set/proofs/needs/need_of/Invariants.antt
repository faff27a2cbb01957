-- The bits are of the pairs so far, and the class is of the last of them.
use Rattle.std.proofs.Common.{◌<◌, chars, IfSome}
use Rattle.glob_pattern.specs.Matching.Literals.{HasCount}
use Rattle.glob_set.specs.Private.Pairs.{HasBits, HasClass}
use Rattle.glob_set.proofs.needs.need_of.Given as goal

abbrev pub invariant-loop-number : goal.invariant-loop-number
invariant-loop-number g l = record {
  bits : HasBits l.pattern l.bits;
  small : IfSome l.class (λ k. k < 128);
  class : HasCount (chars l.pattern) l.number → IfSome l.class (HasClass l.pattern);
}
