use Rattle.glob_walk.proofs.GoalLemmas.UndividedGoal.{plain_matches_levels, plain_matches_names}
use Rattle.glob_walk.proofs.laws.walks.plain_pattern_matches_level_by_level.Goals as goal

pub returns : goal.returns
returns c = record { levels = plain_matches_levels; names = plain_matches_names }
