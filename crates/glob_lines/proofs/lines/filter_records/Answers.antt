use Rattle.std.proofs.Common.{refl}
use Rattle.std.proofs.lemmas.Result.{IfOk-weaker, err_from_is_err_and}
use Rattle.glob_lines.proofs.LineLemmas.Filtering.{records_by_selected, some_records_by_selected}
use Rattle.glob_lines.proofs.LineLemmas.Filtering.{some_bytes_by_selected, some_records_by_none}
use Rattle.glob_lines.proofs.lines.filter_records.Goals as goal

pub returns-in_err-input-clause-records : goal.returns-in_err-input-clause-records
returns-in_err-input-clause-records g c = rw (err_from_is_err_and c.from_residual.result c.from_residual.ensures.1).1 tt

pub returns-in_err-input-clause-end : goal.returns-in_err-input-clause-end
returns-in_err-input-clause-end g c = rw (err_from_is_err_and c.from_residual.result c.from_residual.ensures.1).1 tt

pub returns-in_err-input-clause-memory : goal.returns-in_err-input-clause-memory
returns-in_err-input-clause-memory g c = λ _. some_records_by_none c.args.end c.args.options c.args.pattern.now _ _

pub returns-clause-records : goal.returns-clause-records
returns-clause-records g c =
    let read = c.in_ok-input.ensures in
    IfOk-weaker c.write_records.result _ _ (records_by_selected c.args.end c.args.options c.args.pattern.now _ _ _
    read.bytes read.end _ _) (rw c.deref.ensures.value at (c.write_records.ensures.records _ _ (refl, refl)))

pub returns-clause-memory : goal.returns-clause-memory
returns-clause-memory g c = λ is.
    let read = c.in_ok-input.ensures in
    some_records_by_selected c.args.end c.args.options c.args.pattern.now _ _ _ read.bytes read.end _ _
    (rw c.deref.ensures.value at (c.write_records.ensures.memory _ _ (refl, refl) is))

pub returns-clause-write_fault : goal.returns-clause-write_fault
returns-clause-write_fault g c = λ is.
    let read = c.in_ok-input.ensures in
    some_bytes_by_selected c.args.end c.args.options c.args.pattern.now _ _ _ read.bytes read.end _ _
    (rw c.deref.ensures.value at (c.write_records.ensures.write_fault _ _ (refl, refl) is))
