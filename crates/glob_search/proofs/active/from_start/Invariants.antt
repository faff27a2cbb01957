use Rattle.std.proofs.Common.{◌≡◌}
use Rattle.glob_search.specs.Private.Active.{active_lists, after}
use Rattle.glob_search.proofs.active.from_start.Given as goal

-- the lists so far
abbrev pub invariant-loop-list : goal.invariant-loop-list
invariant-loop-list g l = active_lists l.rules.items ≡ after 0 l.yielded
