use Rattle.glob_walk.proofs.GoalLemmas.ReachedGoals.{plain_walk_reaches}
use Rattle.glob_walk.proofs.laws.walks.plain_walk_reaches_the_goal.Goals as goal

pub returns : goal.returns
returns c = λ t o pattern p given begins. plain_walk_reaches t o pattern p given begins _ (λ whole. whole)
