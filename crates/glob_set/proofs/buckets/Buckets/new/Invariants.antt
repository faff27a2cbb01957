-- The patterns so far are in their buckets.
use Rattle.glob_set.specs.Private.Buckets.{AreBuckets}
use Rattle.glob_set.proofs.buckets.Buckets.new.Given as goal

abbrev pub invariant-loop-number : goal.invariant-loop-number
invariant-loop-number g l = AreBuckets l.needs l.keys l.number l.buckets
