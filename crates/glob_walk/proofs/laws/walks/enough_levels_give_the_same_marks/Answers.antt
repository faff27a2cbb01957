use Rattle.std.proofs.Common.{arith}
use Rattle.glob_tree.proofs.ContentLemmas.Contents.{IsContent-from_test}
use Rattle.glob_walk.proofs.ListingLemmas.Descending.{descent_enough}
use Rattle.glob_walk.proofs.laws.walks.enough_levels_give_the_same_marks.Goals as goal

pub returns : goal.returns
returns g = λ c o each path k content leads directory n m enough more.
    descent_enough c (IsContent-from_test c content) o each n m path k (record { resolved = leads; directory = directory })
    (omega (arith, enough)) (omega (arith, more))
