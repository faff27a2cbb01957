use Rattle.std.proofs.Common.{rules}
use Rattle.std.proofs.lemmas.Result.{IfOk-weaker, on_err_weaker}
use Rattle.glob_console.proofs.CallerLemmas.{Appends-borrowed}
use Rattle.glob_lines.proofs.CallerLemmas.{selected_bytes_at_fault}
use Rattle.globs.proofs.CopyLemmas.{bytes_elsewhere, failed_with, selected_elsewhere, whole_elsewhere}
use Rattle.globs.proofs.copying.write_input.Goals as goal

pub returns-clause-records : goal.returns-clause-records
returns-clause-records g c = λ selects write gives.
    let also = Appends-borrowed g.W.Write.contents _ _ c.rewrite_selected-answer.new.writer.inner
    c.into_inner-output.result _ c.new-writer.ensures.inner c.into_inner-output.ensures (search rules) in
    IfOk-weaker c.rewrite_selected-answer.result _ _ (λ count. selected_elsewhere c.args.end selects write _ _ _ _ _
    count also) (c.rewrite_selected-answer.ensures.records selects write gives)

pub returns-clause-some : goal.returns-clause-some
returns-clause-some g c = λ selects write gives.
    let gave = c.rewrite_selected-answer.ensures in
    let also = Appends-borrowed g.W.Write.contents _ _ c.rewrite_selected-answer.new.writer.inner
    c.into_inner-output.result _ c.new-writer.ensures.inner c.into_inner-output.ensures (search rules) in
    on_err_weaker c.rewrite_selected-answer.result (bytes_elsewhere c.args.end selects write _ _ _ _ _ also)
    (selected_bytes_at_fault c.args.end selects write _ _ _ _ c.rewrite_selected-answer.result
    (gave.read_fault selects write gives) (gave.memory selects write gives) (gave.write_fault selects write gives))

pub returns-clause-failed : goal.returns-clause-failed
returns-clause-failed g c = λ failed. failed_with c.rewrite_selected-answer.result _
    (c.rewrite_selected-answer.ensures.read_failed.0 failed)

pub returns-clause-whole : goal.returns-clause-whole
returns-clause-whole g c = λ selects write gives failed.
    let gave = c.rewrite_selected-answer.ensures in
    let also = Appends-borrowed g.W.Write.contents _ _ c.rewrite_selected-answer.new.writer.inner
    c.into_inner-output.result _ c.new-writer.ensures.inner c.into_inner-output.ensures (search rules) in
    whole_elsewhere c.args.end selects write _ _ _ _ _ _ also (gave.read_fault selects write gives (gave.read_failed.0 failed))
