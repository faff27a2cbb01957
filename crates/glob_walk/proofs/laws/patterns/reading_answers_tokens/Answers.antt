use Rattle.glob_pattern.proofs.GrammarLemmas.Accepted.{reading_of-Ok}
use Rattle.glob_walk.proofs.laws.patterns.reading_answers_tokens.Goals as goal

pub returns : goal.returns
returns c = reading_of-Ok
