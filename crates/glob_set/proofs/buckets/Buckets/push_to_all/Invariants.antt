-- The number is in the buckets so far, and the others are as they were.
use Rattle.std.proofs.Common.{◌≡◌, ◌++◌, map, take, drop}
use Rattle.glob_set.specs.Private.Buckets.{with_another}
use Rattle.glob_set.proofs.buckets.Buckets.push_to_all.Given as goal

abbrev pub invariant-loop-bucket : goal.invariant-loop-bucket
invariant-loop-bucket g l =
    l.bucket-items ≡ map (with_another l.number) (take l.bucket-index l.initial.bucket-items) ++ drop l.bucket-index l.initial.bucket-items
