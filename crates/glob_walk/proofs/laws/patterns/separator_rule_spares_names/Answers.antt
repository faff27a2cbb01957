use Rattle.glob_walk.proofs.ComponentLemmas.SeparatorRule.{separator_rule_free}
use Rattle.glob_walk.proofs.laws.patterns.separator_rule_spares_names.Goals as goal

pub returns : goal.returns
returns c = separator_rule_free
