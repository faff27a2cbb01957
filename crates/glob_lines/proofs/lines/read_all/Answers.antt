use Rattle.std.proofs.Common.{rules}
use Rattle.std.proofs.lemmas.Result.{err_from_is_err_and}
use Rattle.glob_lines.proofs.LineLemmas.KnownMoves.{Consumes-filled}
use Rattle.glob_lines.proofs.lines.read_all.Goals as goal

pub returns-in_err-len-clause-bytes : goal.returns-in_err-len-clause-bytes
returns-in_err-len-clause-bytes g c = rw (err_from_is_err_and c.from_residual.result c.from_residual.ensures.1).1 tt

pub returns-in_err-len-clause-end : goal.returns-in_err-len-clause-end
returns-in_err-len-clause-end g c = rw (err_from_is_err_and c.from_residual.result c.from_residual.ensures.1).1 tt

pub loop-input-preserved : goal.loop-input-preserved
loop-input-preserved g c =
    let before = c.loop-input.invariant in
    let read = c.in_ok-len.ensures in
    record {
      none_failed = search rules;
      within = read.fits;
      read = Consumes-filled _ _ _ c.loop-input.input.items _ _ _ read.front before.read read.bytes;
    }
