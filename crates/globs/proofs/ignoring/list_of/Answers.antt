use Rattle.std.proofs.Common.{◌∙◌, ap, subst}
use Rattle.glob_rules.specs.Lists.{AreTaken, rules_of}
use Rattle.globs.proofs.ignoring.list_of.Goals as goal

pub returns-in-Ok-clause-rules : goal.returns-in-Ok-clause-rules
returns-in-Ok-clause-rules g c =
    let text = c.as_str.ensures.value ∙ c.in_ok-text.ensures in
    (subst AreTaken text c.in-Ok.ensures.taken, c.in-Ok.ensures.rules ∙ ap rules_of text)

pub returns-in-Ok-clause-text : goal.returns-in-Ok-clause-text
returns-in-Ok-clause-text g c = c.in-Ok.ensures.rules ∙ ap rules_of c.as_str.ensures.value
