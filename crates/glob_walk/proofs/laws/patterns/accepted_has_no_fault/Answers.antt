use Rattle.glob_pattern.proofs.GrammarLemmas.Accepted.{no_fault}
use Rattle.glob_walk.proofs.laws.patterns.accepted_has_no_fault.Goals as goal

pub returns : goal.returns
returns c = no_fault
