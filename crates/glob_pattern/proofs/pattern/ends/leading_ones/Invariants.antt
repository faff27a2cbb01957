-- The shapes so far take one character each.
use Rattle.std.proofs.Common.{◌-◌, length, map}
use Rattle.glob_pattern.specs.Grammar.Tokens.{shape_of}
use Rattle.glob_pattern.specs.Private.Ends.{HasOnes}
use Rattle.glob_pattern.proofs.pattern.ends.leading_ones.Given as goal

abbrev pub invariant-loop-lead : goal.invariant-loop-lead
invariant-loop-lead g l = HasOnes (map shape_of l.tokens) l.lead 0

abbrev pub decreases-loop-lead : goal.decreases-loop-lead
decreases-loop-lead g l = length l.tokens - l.lead
