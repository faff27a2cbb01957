use Rattle.glob_walk.proofs.Ascending.{sorted_entries-ascend}
use Rattle.glob_walk.proofs.laws.walks.entries_stand_in_ascending_order.Goals as goal

pub returns : goal.returns
returns g = sorted_entries-ascend
