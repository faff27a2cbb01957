use Rattle.std.proofs.Common.{rules}
use Rattle.std.proofs.lemmas.Result.{IfOk-weaker, on_err_weaker}
use Rattle.glob.specs.Lines.{line_feed}
use Rattle.glob.proofs.LineLemmas.{records_elsewhere, some_bytes_elsewhere, some_bytes_at_fault}
use Rattle.glob_console.proofs.CallerLemmas.{Appends-borrowed}
use Rattle.glob_run.proofs.filter_input.Goals as goal

pub returns-clause-lines : goal.returns-clause-lines
returns-clause-lines g c =
    let o = c.args.options in
    let pattern = c.args.pattern.now in
    let also = Appends-borrowed g.W.Write.contents _ _ c.filter_lines-answer.new.writer.inner
    c.into_inner-output.result _ c.new-writer.ensures.inner c.into_inner-output.ensures (search rules) in
    IfOk-weaker c.filter_lines-answer.result _ _ (λ count. records_elsewhere line_feed o pattern _ _ _ _ _ count also)
    (rw c.new-reader.ensures.inner at c.filter_lines-answer.ensures.lines)

pub returns-clause-some : goal.returns-clause-some
returns-clause-some g c =
    let o = c.args.options in
    let pattern = c.args.pattern.now in
    let gave = c.filter_lines-answer.ensures in
    let also = Appends-borrowed g.W.Write.contents _ _ c.filter_lines-answer.new.writer.inner
    c.into_inner-output.result _ c.new-writer.ensures.inner c.into_inner-output.ensures (search rules) in
    let some = some_bytes_at_fault line_feed o pattern _ _ _ c.filter_lines-answer.result gave.read_fault gave.memory gave.write_fault in
    on_err_weaker c.filter_lines-answer.result (some_bytes_elsewhere line_feed o pattern _ _ _ _ _ also)
    (rw c.new-reader.ensures.inner at some)
