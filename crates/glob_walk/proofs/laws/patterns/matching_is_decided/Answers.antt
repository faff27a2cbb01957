use Rattle.glob_pattern.proofs.MatchingLemmas.Computed.{match_decided}
use Rattle.glob_pattern.proofs.MatchingLemmas.Deciding.{Decides-TokensMatch}
use Rattle.glob_walk.proofs.laws.patterns.matching_is_decided.Goals as goal

pub returns-clause-tokens : goal.returns-clause-tokens
returns-clause-tokens c = Decides-TokensMatch

pub returns-clause-patterns : goal.returns-clause-patterns
returns-clause-patterns c = match_decided
