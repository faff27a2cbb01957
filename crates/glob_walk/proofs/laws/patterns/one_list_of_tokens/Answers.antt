use Rattle.glob_pattern.proofs.GrammarLemmas.Accepted.{one_reading}
use Rattle.glob_walk.proofs.laws.patterns.one_list_of_tokens.Goals as goal

pub returns : goal.returns
returns c = one_reading
