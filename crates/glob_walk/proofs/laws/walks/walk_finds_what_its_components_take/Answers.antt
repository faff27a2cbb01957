use Rattle.glob_walk.proofs.GoalLemmas.OnceInOrder.{plain_walk_orderly}
use Rattle.glob_walk.proofs.GoalLemmas.ReachedGoals.{taken_walk_gives, taken_walk_reaches}
use Rattle.glob_walk.proofs.GoalLemmas.UndividedGoal.{goal_is_taken}
use Rattle.glob_walk.proofs.laws.walks.walk_finds_what_its_components_take.Goals as goal

pub returns-clause-reaches : goal.returns-clause-reaches
returns-clause-reaches c = λ t o pattern p given begins. taken_walk_reaches t o pattern p given begins _ (λ whole. whole)

pub returns-clause-gives : goal.returns-clause-gives
returns-clause-gives c = taken_walk_gives

pub returns-clause-orderly : goal.returns-clause-orderly
returns-clause-orderly c = plain_walk_orderly

pub returns-clause-same : goal.returns-clause-same
returns-clause-same c = goal_is_taken
