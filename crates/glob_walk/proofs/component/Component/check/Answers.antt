use Rattle.std.proofs.Common.{sym, ◌∙◌}
use Rattle.glob_walk.proofs.WalkLemmas.Reading.{text_fault-literal}
use Rattle.glob_walk.proofs.component.Component.check.Goals as goal

pub returns-then-is_literal-clause-accepted : goal.returns-then-is_literal-clause-accepted
returns-then-is_literal-clause-accepted g c = text_fault-literal c.args.text.now c.utf8.text (sym c.is_literal.ensures
    ∙ c.if-is_literal.true)
