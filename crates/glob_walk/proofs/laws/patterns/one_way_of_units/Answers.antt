use Rattle.glob_pattern.proofs.GrammarLemmas.Accepted.{one_way}
use Rattle.glob_walk.proofs.laws.patterns.one_way_of_units.Goals as goal

pub returns : goal.returns
returns c = one_way
