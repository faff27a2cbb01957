use Rattle.std.proofs.KnownBytes.{Keeps-refl}
use Rattle.glob.specs.Lines.{line_feed}
use Rattle.glob.proofs.LineLemmas.{some_bytes_by_keeping}
use Rattle.glob_run.proofs.CopyLemmas.{CopiesLines-some}
use Rattle.glob_run.proofs.run_match.Goals as goal

pub returns-in-Err-clause-lines : goal.returns-in-Err-clause-lines
returns-in-Err-clause-lines g c =
    CopiesLines-some _ _ _ _ _ _ c.fault.ensures.status (some_bytes_by_keeping line_feed c.args.options
    c.args.pattern.now _ _ _ (Keeps-refl _))
