use Rattle.std.proofs.Common.{◌≡◌, ◌≤◌, drop, length, None}
use Rattle.glob_search.specs.Private.Asked.{cut_by, last_of}
use Rattle.glob_search.proofs.active.last_naming.Given as goal

-- no list from here on names the path
abbrev pub invariant-loop-left : goal.invariant-loop-left
invariant-loop-left g l = record {
  within : l.left ≤ length l.rules;
  silent : last_of (cut_by l.path (drop l.left l.rules)) l.is_dir l.left ≡ None;
}

abbrev pub decreases-loop-left : goal.decreases-loop-left
decreases-loop-left g l = l.left
