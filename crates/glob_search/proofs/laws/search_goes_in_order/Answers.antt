use Rattle.glob_search.proofs.OrderLemmas.Ascending.{found_ascend, gifts_ascend}
use Rattle.glob_search.proofs.laws.search_goes_in_order.Goals as goal

pub returns-clause-all : goal.returns-clause-all
returns-clause-all c = gifts_ascend

pub returns-clause-found : goal.returns-clause-found
returns-clause-found c = found_ascend
