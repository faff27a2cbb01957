use Rattle.glob_walk.proofs.CostLemmas.Polynomial.{plain_walk_costs}
use Rattle.glob_walk.proofs.laws.walks.walk_costs_a_polynomial_of_keys.Goals as goal

pub returns : goal.returns
returns c = plain_walk_costs
