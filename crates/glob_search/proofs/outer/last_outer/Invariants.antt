use Rattle.std.proofs.Common.{◌≡◌, ◌≤◌, drop, length, None}
use Rattle.glob_search.specs.Private.Asked.{last_of, seen_by_outer}
use Rattle.glob_search.proofs.outer.last_outer.Given as goal

-- no list from here on names the path
abbrev pub invariant-loop-left : goal.invariant-loop-left
invariant-loop-left g l = record {
  within : l.left ≤ length l.lists;
  silent : last_of (seen_by_outer l.path (drop l.left l.lists)) l.is_dir l.left ≡ None;
}

abbrev pub decreases-loop-left : goal.decreases-loop-left
decreases-loop-left g l = l.left
