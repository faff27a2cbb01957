use Rattle.std.proofs.Common.{rules}
use Rattle.glob_lines.proofs.LineLemmas.KnownMoves.{Appends-cut, Appends-more, OnErr-from}
use Rattle.glob_lines.proofs.watch.Watch.write_all.Goals as goal

pub returns-in_err-len-clause-err : goal.returns-in_err-len-clause-err
returns-in_err-len-clause-err g c =
    let (done, split, appended) = c.loop-rest.invariant.1 in
    OnErr-from _ (Appends-cut _ _ _ _ done _ split appended c.in_err-len.ensures.bytes)

pub loop-rest-preserved : goal.loop-rest-preserved
loop-rest-preserved g c =
    let (done, split, appended) = c.loop-rest.invariant.1 in
    (search rules, Appends-more _ _ _ _ done _ _ split appended c.in_ok-len.ensures.bytes)
