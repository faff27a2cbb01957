-- The wanted items so far were written, or wait.
use Rattle.std.proofs.Common.{◌+◌, ◌-◌}
use Rattle.glob_console.proofs.FoundLemmas.{Written}
use Rattle.glob_console.proofs.find.write_items.Given as goal

abbrev pub invariant-loop-step : goal.invariant-loop-step
invariant-loop-step g l =
    Written l.records.end (g.C.Choice.wanted l.records.choice.now)
    g.T.Tree.tells l.fn.tree l.fn.walk (g.W.Write.contents l.initial.output)
    l.tree l.walk l.progress.findings (g.W.Write.contents l.output) l.progress.lines.waiting.items

abbrev pub decreases-loop-step : goal.decreases-loop-step
decreases-loop-step g l = (l.walk.limit - l.walk.spent) + (l.walk.limit + 1 - l.walk.given)
