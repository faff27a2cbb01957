use Rattle.std.proofs.Common.{◌++◌, refl, ap}
use Rattle.std.specs.Prelude.{codes}
use Rattle.std.proofs.lemmas.Grind.{put_two}
use Rattle.glob_pattern.specs.Words.{out_of_memory}
use Rattle.glob_walk.proofs.error.GlobErrorDisplay.fmt.Goals as goal

pub returns-in-Read-clause-writes : goal.returns-in-Read-clause-writes
returns-in-Read-clause-writes g c = rw c.in-Read.is tt

pub returns-in-Memory-clause-writes : goal.returns-in-Memory-clause-writes
returns-in-Memory-clause-writes g c = rw c.in-Memory.is (λ plain ok.
    let before = c.in_ok-write.ensures.writes plain refl in
    put_two g.W.Write.write_str_gives _ _ _ _ out_of_memory _ before (c.write_str.ensures.writes before.plain ok)
    (ap (λ path. codes "attempting to read `" ++ path ++ codes "` resulted in an error: " ++ out_of_memory) c.display-path.ensures))

pub returns-in-Limit-clause-writes : goal.returns-in-Limit-clause-writes
returns-in-Limit-clause-writes g c = rw c.in-Limit.is (λ plain ok.
    let before = c.in_ok-write.ensures.writes plain refl in
    put_two g.W.Write.write_str_gives _ _ _ _ (codes "walk limit reached") _ before (c.write_str-in-Limit.ensures.writes before.plain ok)
    (ap (λ path. codes "attempting to read `" ++ path ++ codes "` resulted in an error: " ++ codes
    "walk limit reached") c.display-path.ensures))
