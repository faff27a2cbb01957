use Rattle.glob_console.proofs.FoundLemmas.{Written, Written-first, Written-next, Written-fault, Written-done}
use Rattle.glob_console.proofs.WritingLemmas.{OnErr-from}
use Rattle.std.proofs.Common.{subst, sym}
use Rattle.glob_console.proofs.find.write_items.Goals as goal

pub loop-step-init : goal.loop-step-init
loop-step-init g c =
    let old = g.W.Write.contents c.args.output.now in
    let made = c.new.ensures in
    subst (Written c.args.records.now.end (g.C.Choice.wanted c.args.records.now.choice.now)
    g.T.Tree.tells c.args.tree.now c.args.walk.now old
    c.args.tree.now c.args.walk.now c.new.result old) (sym c.in_ok-new.ensures)
    (Written-first c.args.records.now.end (g.C.Choice.wanted c.args.records.now.choice.now)
    g.T.Tree.tells c.args.tree.now c.args.walk.now old
    c.new.result made.end made.path made.error)

pub returns-in_err-write_step-clause-some : goal.returns-in_err-write_step-clause-some
returns-in_err-write_step-clause-some g c c' told ms begun =
    let held = g.W.Write.contents in
    let l = c.loop-step in
    let (n, asks, steps) = c.advance-step.ensures.steps in
    OnErr-from _
    (Written-fault c.args.records.now.end (g.C.Choice.wanted c.args.records.now.choice.now)
    g.T.Tree.tells c.args.tree.now c.args.walk.now (held c.args.output.now) l.tree c.advance-step.new.tree l.walk
    c.advance-step.new.self n l.progress.findings
    (held l.output) l.progress.lines.waiting.items
    l.invariant c.advance-step.ensures.content c.advance-step.result steps (held c.write_step.new.output)
    c.in_err-write_step.ensures.some c' told ms begun)

pub returns-in-Done-clause-paths : goal.returns-in-Done-clause-paths
returns-in-Done-clause-paths g c c' told ms begun =
    let held = g.W.Write.contents in
    let l = c.loop-step in
    let (n, asks, steps) = c.advance-step.ensures.steps in
    let wrote = c.write_step.new in
    Written-done c.args.records.now.end (g.C.Choice.wanted c.args.records.now.choice.now)
    g.T.Tree.tells c.args.tree.now c.args.walk.now (held c.args.output.now) l.tree c.advance-step.new.tree l.walk
    c.advance-step.new.self n l.progress.findings
    (held l.output) l.progress.lines.waiting.items
    l.invariant c.advance-step.ensures.content wrote.tree c.in_ok-write_step.ensures.content
    (held wrote.output) wrote.progress.lines.waiting.items
    c.advance-step.result c.in-Done.is steps wrote.progress.findings c.in_ok-write_step.ensures.written c' told ms begun

pub loop-step-preserved-in_default : goal.loop-step-preserved-in_default
loop-step-preserved-in_default g c =
    let held = g.W.Write.contents in
    let l = c.loop-step in
    let (n, asks, steps) = c.advance-step.ensures.steps in
    let wrote = c.write_step.new in
    Written-next c.args.records.now.end (g.C.Choice.wanted c.args.records.now.choice.now)
    g.T.Tree.tells c.args.tree.now c.args.walk.now (held c.args.output.now) l.tree c.advance-step.new.tree l.walk
    c.advance-step.new.self n l.progress.findings
    (held l.output) l.progress.lines.waiting.items
    l.invariant c.advance-step.ensures.content wrote.tree c.in_ok-write_step.ensures.content
    (held wrote.output) wrote.progress.lines.waiting.items
    c.advance-step.result c.in_default.not-Done steps wrote.progress.findings c.in_ok-write_step.ensures.written

pub loop-step-preserved-in_default-2 : goal.loop-step-preserved-in_default-2
loop-step-preserved-in_default-2 g c =
    let held = g.W.Write.contents in
    let l = c.loop-step in
    let (n, asks, steps) = c.advance-step.ensures.steps in
    let wrote = c.write_step.new in
    Written-next c.args.records.now.end (g.C.Choice.wanted c.args.records.now.choice.now)
    g.T.Tree.tells c.args.tree.now c.args.walk.now (held c.args.output.now) l.tree c.advance-step.new.tree l.walk
    c.advance-step.new.self n l.progress.findings
    (held l.output) l.progress.lines.waiting.items
    l.invariant c.advance-step.ensures.content wrote.tree c.in_ok-write_step.ensures.content
    (held wrote.output) wrote.progress.lines.waiting.items
    c.advance-step.result c.in_default.not-Done steps wrote.progress.findings c.in_ok-write_step.ensures.written

pub loop-step-preserved : goal.loop-step-preserved
loop-step-preserved g c =
    let held = g.W.Write.contents in
    let l = c.loop-step in
    let (n, asks, steps) = c.advance-step.ensures.steps in
    let wrote = c.write_step.new in
    Written-next c.args.records.now.end (g.C.Choice.wanted c.args.records.now.choice.now)
    g.T.Tree.tells c.args.tree.now c.args.walk.now (held c.args.output.now) l.tree c.advance-step.new.tree l.walk
    c.advance-step.new.self n l.progress.findings
    (held l.output) l.progress.lines.waiting.items
    l.invariant c.advance-step.ensures.content wrote.tree c.in_ok-write_step.ensures.content
    (held wrote.output) wrote.progress.lines.waiting.items
    c.advance-step.result c.in_default.not-Done steps wrote.progress.findings c.in_ok-write_step.ensures.written
