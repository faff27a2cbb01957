use Rattle.glob_search.proofs.OrderLemmas.Found.{reports_the_unread}
use Rattle.glob_search.proofs.laws.search_reports_what_it_cannot_list.Goals as goal

pub returns : goal.returns
returns g = reports_the_unread
