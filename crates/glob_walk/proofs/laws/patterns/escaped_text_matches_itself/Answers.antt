use Rattle.glob_pattern.proofs.EscapingLemmas.Standing.{escaped_accepted, escaped_matches_same, escaped_matches_itself}
use Rattle.glob_walk.proofs.laws.patterns.escaped_text_matches_itself.Goals as goal

pub returns-clause-accepted : goal.returns-clause-accepted
returns-clause-accepted c = escaped_accepted

pub returns-clause-same : goal.returns-clause-same
returns-clause-same c = escaped_matches_same

pub returns-clause-itself : goal.returns-clause-itself
returns-clause-itself c = escaped_matches_itself
