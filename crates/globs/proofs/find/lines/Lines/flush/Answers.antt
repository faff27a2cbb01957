use Rattle.std.proofs.Common.{◌++◌, [], ap, sym, subst, append-nil}
use Rattle.std.proofs.KnownBytes.{Appends-kept}
use Rattle.std.specs.Io.KnownBytes.{Appends}
use Rattle.std.proofs.lemmas.Result.{err_from_is_err_and}
use Rattle.glob_lines.specs.Lines.{AppendsFront}
use Rattle.glob_console.specs.Private.Writing.{Queues}
use Rattle.glob_console.proofs.WritingLemmas.{AppendsFront-kept, OnErr-from, OnOk-from}
use Rattle.globs.proofs.find.lines.Lines.flush.Goals as goal

pub returns-in_err-write_whole-clause-all : goal.returns-in_err-write_whole-clause-all
returns-in_err-write_whole-clause-all g c = rw (err_from_is_err_and c.from_residual.result c.from_residual.ensures.1).1 tt

pub returns-in_err-write_whole-clause-none : goal.returns-in_err-write_whole-clause-none
returns-in_err-write_whole-clause-none g c = rw (err_from_is_err_and c.from_residual.result c.from_residual.ensures.1).1 tt

pub returns-in_err-write_whole-clause-some : goal.returns-in_err-write_whole-clause-some
returns-in_err-write_whole-clause-some g c =
    let held = g.W.Write.contents in
    OnErr-from _ (subst (AppendsFront (held c.args.output.now) (held c.write_whole.new.writer)) c.as_slice.ensures.value
    c.in_err-write_whole.ensures.some)

pub returns-clause-all : goal.returns-clause-all
returns-clause-all g c =
    let held = g.W.Write.contents in
    let waiting = c.args.self.now.waiting.items in
    let all = subst (Appends (held c.args.output.now) (held c.write_whole.new.writer)) c.as_slice.ensures.value
    c.in_ok-write_whole.ensures.all in
    let queued : Queues (held c.args.output.now) waiting (held c.flush.new.self) c.clear.new.self.items [] =
    (waiting, Appends-kept _ _ _ waiting all c.flush.ensures.bytes, ap (λ l. waiting ++ l) (sym c.clear.ensures.items)) in
    OnOk-from _ queued

pub returns-clause-none : goal.returns-clause-none
returns-clause-none g c = OnOk-from _ c.clear.ensures.items

pub returns-clause-some : goal.returns-clause-some
returns-clause-some g c =
    let held = g.W.Write.contents in
    let waiting = c.args.self.now.waiting.items in
    let all = subst (Appends (held c.args.output.now) (held c.write_whole.new.writer)) c.as_slice.ensures.value
    c.in_ok-write_whole.ensures.all in
    OnErr-from _ (AppendsFront-kept _ _ _ waiting waiting [] (sym (append-nil waiting)) all c.flush.ensures.bytes)
