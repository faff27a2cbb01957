use Rattle.glob_walk.proofs.ComponentLemmas.JoinedComponents.{joined_takes, rooted_takes}
use Rattle.glob_walk.proofs.laws.patterns.components_match_level_by_level.Goals as goal

pub returns-clause-joined : goal.returns-clause-joined
returns-clause-joined c = joined_takes

pub returns-clause-rooted : goal.returns-clause-rooted
returns-clause-rooted c = rooted_takes
