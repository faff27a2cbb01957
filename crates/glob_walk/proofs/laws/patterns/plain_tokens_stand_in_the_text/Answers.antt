use Rattle.glob_pattern.proofs.MatchingLemmas.PlainTokens.{plain_tokens_stand}
use Rattle.glob_walk.proofs.laws.patterns.plain_tokens_stand_in_the_text.Goals as goal

pub returns : goal.returns
returns c = plain_tokens_stand
