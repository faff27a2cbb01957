use Rattle.std.proofs.Common.{nat_le, sym, rules, of_calls, arith}
use Rattle.std.proofs.lemmas.Fn.{always_returns_same}
use Rattle.std.proofs.lemmas.List.Sorted.{IsPartitionedBy-leb}
use Rattle.std.proofs.lemmas.List.Sums.{prefix_len_is}
use Rattle.glob_pattern.proofs.pattern.classes.begun_by_search.Goals as goal

pub returns : goal.returns
returns c =
    let boundaries = c.args.boundaries.now in
    let n = c.partition_point.result in
    let point = c.partition_point.ensures.partitioned (λ f. nat_le f c.args.c) (always_returns_same _ _ _
    (λ a r f k. search (rules, of_calls))) (IsPartitionedBy-leb (λ x. x) boundaries c.args.c c.requires) in
    sym (prefix_len_is (λ first. nat_le first c.args.c) boundaries n 0 c.partition_point.ensures.bound
    (λ k lt. point.0 k 0 (omega arith) lt) (λ lt. point.1 n 0 (omega arith) lt))
