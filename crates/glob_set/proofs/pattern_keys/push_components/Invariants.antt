-- What has been read is known, and the keys so far are keys.
use Rattle.std.proofs.Common.{All, IfSome}
use Rattle.glob_set.specs.Private.Components.{IsReadAt}
use Rattle.glob_set.specs.Private.Keys.{HasKey}
use Rattle.glob_set.proofs.pattern_keys.push_components.Given as goal

abbrev pub invariant-loop-token : goal.invariant-loop-token
invariant-loop-token g l = record {
  component : IfSome l.component (IsReadAt l.pattern l.token);
  keys : All (HasKey l.pattern) l.keys.items;
}
