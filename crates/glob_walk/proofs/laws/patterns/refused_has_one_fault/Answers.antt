use Rattle.glob_pattern.proofs.GrammarLemmas.Accepted.{some_fault}
use Rattle.glob_walk.proofs.laws.patterns.refused_has_one_fault.Goals as goal

pub returns : goal.returns
returns c = some_fault
