-- The current needle is of the last tokens read, and the longest one is of some tokens.
use Rattle.std.proofs.Common.{◌≤◌}
use Rattle.glob_pattern.specs.Private.Needles.{IsNeedle}
use Rattle.glob_pattern.proofs.MatchingLemmas.Needles.{EndsIn}
use Rattle.glob_pattern.proofs.pattern.needle.Needle.of.Given as goal

abbrev pub invariant-loop-token : goal.invariant-loop-token
invariant-loop-token g l = record {
  few : l.needle.len ≤ 16;
  last : EndsIn l.tokens l.token-index l.needle;
  longest : IsNeedle l.tokens l.longest;
}
