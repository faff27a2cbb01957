-- The tokens so far are literals.
use Rattle.std.proofs.Common.{◌-◌, ◌≤◌, length, take}
use Rattle.glob_pattern.specs.Private.Ends.{HasLiterals}
use Rattle.glob_pattern.proofs.pattern.ends.leading_literals.Given as goal

abbrev pub invariant-loop-c : goal.invariant-loop-c
invariant-loop-c g l = record {
  within : l.literals.count ≤ length l.tokens;
  literals : HasLiterals (take l.literals.count l.tokens) l.literals.bytes;
}

abbrev pub decreases-loop-c : goal.decreases-loop-c
decreases-loop-c g l = length l.tokens - l.literals.count
