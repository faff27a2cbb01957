-- The lexemes so far are counted.
use Rattle.std.proofs.Common.{take, reverse}
use Rattle.glob_set.specs.Private.BraceCounts.{CountsSoFar}
use Rattle.glob_set.proofs.braces.counting.count_of.Given as goal

abbrev pub invariant-loop-place : goal.invariant-loop-place
invariant-loop-place g l = CountsSoFar (take l.place l.lexemes) l.count (reverse l.opened.items)
