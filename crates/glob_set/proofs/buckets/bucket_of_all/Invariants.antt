-- The numbers are all so far.
use Rattle.glob_set.specs.Private.Buckets.{IsAll}
use Rattle.glob_set.proofs.buckets.bucket_of_all.Given as goal

abbrev pub invariant-loop-number : goal.invariant-loop-number
invariant-loop-number g l = IsAll l.number l.numbers.items
