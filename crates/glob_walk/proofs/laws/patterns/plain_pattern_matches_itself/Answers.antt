use Rattle.glob_pattern.proofs.GrammarLemmas.Accepted.{one_reading}
use Rattle.glob_pattern.proofs.MatchingLemmas.PlainPatterns.{plain_accepted, plain_matches_same, plain_matches_itself}
use Rattle.glob_walk.proofs.laws.patterns.plain_pattern_matches_itself.Goals as goal

pub returns-clause-accepted : goal.returns-clause-accepted
returns-clause-accepted c = plain_accepted

pub returns-clause-same : goal.returns-clause-same
returns-clause-same c = plain_matches_same one_reading

pub returns-clause-itself : goal.returns-clause-itself
returns-clause-itself c = plain_matches_itself one_reading
