use Rattle.std.proofs.Common.{◌≡◌}
use Rattle.glob_search.specs.Aims.{outer_of}
use Rattle.glob_search.specs.Searching.{entered}
use Rattle.glob_search.proofs.outer.entered.Given as goal

-- the lists so far
abbrev pub invariant-loop-prefix : goal.invariant-loop-prefix
invariant-loop-prefix g l = outer_of l.deeper.items ≡ entered l.name (outer_of l.yielded)
