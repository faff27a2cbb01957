use Rattle.glob_search.proofs.OrderLemmas.Found.{finds_the_found}
use Rattle.glob_search.proofs.laws.search_finds_what_is_to_be_found.Goals as goal

pub returns : goal.returns
returns g = finds_the_found
