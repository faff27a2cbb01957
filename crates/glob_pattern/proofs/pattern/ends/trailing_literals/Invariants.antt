-- The tokens so far are literals.
use Rattle.std.proofs.Common.{◌-◌, ◌≤◌, length, drop}
use Rattle.glob_pattern.specs.Private.Ends.{HasLiterals}
use Rattle.glob_pattern.proofs.pattern.ends.trailing_literals.Given as goal

abbrev pub invariant-loop-literals : goal.invariant-loop-literals
invariant-loop-literals g l = record {
  within : l.literals.count ≤ length l.tokens;
  literals : HasLiterals (drop (length l.tokens - l.literals.count) l.tokens) l.literals.bytes;
}

abbrev pub decreases-loop-literals : goal.decreases-loop-literals
decreases-loop-literals g l = length l.tokens - l.literals.count
