use Rattle.glob_walk.proofs.MatchLemmas.Folded.{folded_match_same}
use Rattle.glob_walk.proofs.laws.patterns.deep_tokens_match_as_one.Goals as goal

pub returns : goal.returns
returns c = folded_match_same
