use Rattle.glob_pattern.proofs.MatchingLemmas.PlainTokens.{one_character_each}
use Rattle.glob_walk.proofs.laws.patterns.one_character_for_each_such_token.Goals as goal

pub returns : goal.returns
returns c = one_character_each
