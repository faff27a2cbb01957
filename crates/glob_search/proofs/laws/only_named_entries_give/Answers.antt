use Rattle.glob_search.proofs.OrderLemmas.Named.{only_named_give}
use Rattle.glob_search.proofs.laws.only_named_entries_give.Goals as goal

pub returns : goal.returns
returns g = only_named_give
