use Rattle.std.proofs.Common.{arith}
use Rattle.glob_run.specs.Outcomes.{CopiesLines}
use Rattle.glob_run.proofs.CopyLemmas.{CopiesLines-some}
use Rattle.glob_run.proofs.copy_lines.Goals as goal

pub returns-in-Err-clause-lines : goal.returns-in-Err-clause-lines
returns-in-Err-clause-lines g c = CopiesLines-some _ _ _ _ _ _ c.fault.ensures.status c.in-Err.ensures.some

pub returns-in-Ok-eq0-clause-lines : goal.returns-in-Ok-eq0-clause-lines
unfolding CopiesLines
returns-in-Ok-eq0-clause-lines g c = (
  λ found. absurd (omega (arith, found)),
  λ unfound. rw c.in-Ok-eq0.field-0-test at c.in-Ok-eq0.ensures.lines,
  λ fault. absurd (omega (arith, fault)),
)

pub returns-in-Ok-clause-lines : goal.returns-in-Ok-clause-lines
unfolding CopiesLines
returns-in-Ok-clause-lines g c = (
  λ found. (c.in-Ok.field-0, omega (arith, c.in-Ok.field-0-test), c.in-Ok.ensures.lines),
  λ unfound. absurd
      (omega (arith, unfound)),
  λ fault. absurd (omega (arith, fault)),
)
