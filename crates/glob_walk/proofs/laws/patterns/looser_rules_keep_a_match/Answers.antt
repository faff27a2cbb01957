use Rattle.glob_walk.proofs.MatchLemmas.Loosening.{tokens_loosened, patterns_loosened}
use Rattle.glob_walk.proofs.laws.patterns.looser_rules_keep_a_match.Goals as goal

pub returns-clause-tokens : goal.returns-clause-tokens
returns-clause-tokens c = tokens_loosened

pub returns-clause-patterns : goal.returns-clause-patterns
returns-clause-patterns c = patterns_loosened
