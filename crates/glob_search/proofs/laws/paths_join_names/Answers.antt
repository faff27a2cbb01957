use Rattle.glob_search.proofs.EngineLemmas.Paths.{paths_join}
use Rattle.glob_search.proofs.laws.paths_join_names.Goals as goal

pub returns : goal.returns
returns g = paths_join
