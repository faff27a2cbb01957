-- The shapes so far take one character each.
use Rattle.std.proofs.Common.{◌-◌, length, map}
use Rattle.glob_pattern.specs.Grammar.Tokens.{shape_of}
use Rattle.glob_pattern.specs.Private.Ends.{HasOnes}
use Rattle.glob_pattern.proofs.pattern.ends.trailing_ones.Given as goal

abbrev pub invariant-loop-trail : goal.invariant-loop-trail
invariant-loop-trail g l = HasOnes (map shape_of l.tokens) l.lead l.trail

abbrev pub decreases-loop-trail : goal.decreases-loop-trail
decreases-loop-trail g l = length l.tokens - l.trail
