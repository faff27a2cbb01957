use Rattle.glob_pattern.proofs.GrammarLemmas.Accepted.{length-HasTokens}
use Rattle.glob_walk.proofs.laws.patterns.no_more_tokens_than_characters.Goals as goal

pub returns : goal.returns
returns c = length-HasTokens
