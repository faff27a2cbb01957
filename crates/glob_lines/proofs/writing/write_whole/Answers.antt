use Rattle.glob_lines.proofs.LineLemmas.KnownMoves.{Appends-cut, Appends-front, Appends-more, OnErr-from}
use Rattle.glob_lines.proofs.writing.write_whole.Goals as goal

pub returns-in_err-len-clause-some : goal.returns-in_err-len-clause-some
returns-in_err-len-clause-some g c =
    let (done, split, wrote) = c.loop.invariant in
    OnErr-from _ (Appends-cut _ _ _ _ done _ split wrote c.in_err-len.ensures.bytes)

pub loop-preserved : goal.loop-preserved
loop-preserved g c =
    let (done, split, wrote) = c.loop.invariant in
    Appends-more _ _ _ _ done _ _ split wrote c.in_ok-len.ensures.bytes

pub returns-clause-some : goal.returns-clause-some
returns-clause-some g c =
    let (done, split, wrote) = c.loop.invariant in
    Appends-front _ _ _ done _ split wrote
