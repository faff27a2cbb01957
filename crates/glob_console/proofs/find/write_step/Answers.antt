use Rattle.std.proofs.Common.{◌≡◌, ◌++◌, true, OnErr, subst, sym, ◌∙◌}
use Rattle.std.specs.Path.{path_buf_bytes}
use Rattle.glob_lines.specs.Lines.{AppendsFront, ended_record}
use Rattle.glob_console.proofs.find.write_step.Goals as goal

pub returns-else-not-branch-clause-some : goal.returns-else-not-branch-clause-some
returns-else-not-branch-clause-some g c x told =
    let held = g.W.Write.contents in
    let waiting = c.args.progress.now.lines.waiting.items in
    let wanted = g.C.Choice.wanted c.args.records.now.choice.now x in
    let sure : wanted (path_buf_bytes c.in-Ok.path) ≡ true =
    subst (λ t. wanted t ≡ true) c.as_str.ensures (sym (c.in_ok-wants-in-Ok.ensures.wanted x told) ∙ c.if-not-branch.false) in
    rw (c.in-Item.is, c.in-Ok.is, sure)
    (subst (λ t. OnErr c.add.result (AppendsFront (held c.args.output.now) (held c.add.new.output)
    (waiting ++ ended_record c.args.records.now.end t))) c.as_str-in-Ok.ensures c.add.ensures.some)
