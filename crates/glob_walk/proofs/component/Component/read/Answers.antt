use Rattle.std.proofs.Common.{sym, ◌∙◌}
use Rattle.glob_walk.proofs.WalkLemmas.Reading.{text_fault-literal}
use Rattle.glob_walk.proofs.WalkLemmas.Literals.{text_fault-recursive}
use Rattle.glob_walk.proofs.component.Component.read.Goals.{then-is_literal+in_ok-from_str}
use Rattle.glob_walk.proofs.component.Component.read.Goals.{else-is_literal+then-is_recursive}
use Rattle.glob_walk.proofs.component.Component.read.Goals.{else-is_literal+else-is_recursive+in_ok-compile}
use Rattle.glob_walk.proofs.component.Component.read.Goals as goal

pub returns-clause-accepted : goal.returns-clause-accepted
returns-clause-accepted g c = elim c.if-is_literal.branch [
  | then-is_literal+in_ok-from_str w ↦ text_fault-literal c.args.text.now c.utf8.text (sym c.is_literal.ensures ∙ w.if-is_literal.true)
  | else-is_literal+then-is_recursive w ↦ text_fault-recursive c.args.text.now (sym w.is_recursive.ensures ∙ w.if-is_recursive.true)
  | else-is_literal+else-is_recursive+in_ok-compile w ↦ w.in_ok-compile.ensures.accepted
]
