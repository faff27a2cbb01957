-- The pattern is read back to the token, and the keys so far are keys.
use Rattle.std.proofs.Common.{◌≤◌, All}
use Rattle.glob_set.specs.Private.Keys.{HasKey, IsReadBack}
use Rattle.glob_set.proofs.pattern_keys.push_endings.Given as goal

abbrev pub invariant-loop-token : goal.invariant-loop-token
invariant-loop-token g l = record {
  read : IsReadBack l.pattern l.token l.hash l.len;
  few : l.len ≤ 8;
  keys : All (HasKey l.pattern) l.keys.items;
}

abbrev pub decreases-loop-token : goal.decreases-loop-token
decreases-loop-token g l = l.token
