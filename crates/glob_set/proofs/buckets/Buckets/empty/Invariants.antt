-- There is an empty bucket for each class so far.
use Rattle.std.proofs.Common.{◌≡◌, [], replicate}
use Rattle.glob_set.proofs.buckets.Buckets.empty.Given as goal

abbrev pub invariant-loop-class : goal.invariant-loop-class
invariant-loop-class g l = l.classes.items ≡ replicate l._class []
