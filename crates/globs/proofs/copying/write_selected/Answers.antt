use Rattle.globs.specs.Copying.{input_of}
use Rattle.globs.proofs.CopyLemmas.{copies_bytes, copies_none, copies_some, no_failure}
use Rattle.globs.proofs.copying.write_selected.Goals as goal

pub returns-in-Ok-eq0-clause-written : goal.returns-in-Ok-eq0-clause-written
returns-in-Ok-eq0-clause-written g c = λ selects write gives.
    copies_none c.args.end _ _ (input_of g.R.Read.remaining c.args.input.now c.write_input.new.input) _ _
    (no_failure c.write_input.result _ _ c.in-Ok-eq0.is c.write_input.ensures.failed) c.in-Ok-eq0.ensures.end
    (rw c.in-Ok-eq0.field-0-test at (c.in-Ok-eq0.ensures.records selects write gives))

pub returns-in-Ok-clause-written : goal.returns-in-Ok-clause-written
returns-in-Ok-clause-written g c = λ selects write gives.
    copies_some c.args.end _ _ (input_of g.R.Read.remaining c.args.input.now c.write_input.new.input) _ _ _ c.in-Ok.field-0-test.1
    (no_failure c.write_input.result _ _ c.in-Ok.is c.write_input.ensures.failed) c.in-Ok.ensures.end
    (c.in-Ok.ensures.records selects write gives)

pub returns-in-Err-Write-clause-written : goal.returns-in-Err-Write-clause-written
returns-in-Err-Write-clause-written g c = λ selects write gives.
    copies_bytes c.args.end _ _ (input_of g.R.Read.remaining c.args.input.now c.write_input.new.input) _ _ _
    c.write_fault.ensures.status (c.in-Err-Write.ensures.some selects write gives) (c.write_input.ensures.whole selects write gives)

pub returns-in-Err-clause-written : goal.returns-in-Err-clause-written
returns-in-Err-clause-written g c = λ selects write gives.
    copies_bytes c.args.end _ _ (input_of g.R.Read.remaining c.args.input.now c.write_input.new.input) _ _ _
    c.fault.ensures.status (c.in-Err.ensures.some selects write gives) (c.write_input.ensures.whole selects write gives)
