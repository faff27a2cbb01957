use Rattle.glob_walk.proofs.GoalLemmas.ReachedGoals.{plain_walk_gives}
use Rattle.glob_walk.proofs.laws.walks.plain_walk_gives_the_goal.Goals as goal

pub returns : goal.returns
returns c = plain_walk_gives
