-- What is gone from `rest` was written, and no write of it failed.
use Rattle.std.proofs.Common.{◌≡◌, ℕ, List, ◌++◌, length}
use Rattle.std.specs.Io.KnownBytes.{Appends}
use Rattle.glob_lines.proofs.watch.Watch.write_all.Given as goal

abbrev pub invariant-loop-rest : goal.invariant-loop-rest
invariant-loop-rest g l =
    (l.self.failed ≡ l.initial.self.failed)
    × ((done : List ℕ) × (l.bytes ≡ done ++ l.rest)
    × Appends (g.S.Write.contents l.initial.self.inner) (g.S.Write.contents l.self.inner) done)

abbrev pub decreases-loop-rest : goal.decreases-loop-rest
decreases-loop-rest g l = length l.rest
