use Rattle.std.proofs.Common.{inl, inr}
use Rattle.std.proofs.KnownBytes.{Keeps-refl}
use Rattle.glob_run.specs.Outcomes.{WritesEscaped}
use Rattle.glob_run.proofs.run_escape.Goals as goal

pub returns-in-Ok-clause-escaped : goal.returns-in-Ok-clause-escaped
unfolding WritesEscaped
returns-in-Ok-clause-escaped g c = inr (_, c.in-Ok.ensures, rw c.deref.ensures at c.write_text.ensures.written)

pub returns-in-Err-clause-escaped : goal.returns-in-Err-clause-escaped
unfolding WritesEscaped
returns-in-Err-clause-escaped g c = inl (c.memory_fault.ensures.status, Keeps-refl _)
