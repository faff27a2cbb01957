use Rattle.glob_pattern.proofs.GrammarLemmas.Accepted.{one_unit}
use Rattle.glob_walk.proofs.laws.patterns.one_unit_at_a_place.Goals as goal

pub returns : goal.returns
returns c = one_unit
