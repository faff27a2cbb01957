use Rattle.glob_search.proofs.OrderLemmas.OneFile.{one_file_decides}
use Rattle.glob_search.proofs.laws.one_file_decides_as_its_list.Goals as goal

pub returns : goal.returns
returns g = one_file_decides
