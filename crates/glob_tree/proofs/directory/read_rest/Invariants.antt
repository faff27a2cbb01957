-- The block is not empty, and the bytes read so far are gathered.
use Rattle.std.proofs.Common.{◌≡◌, ◌<◌, ◌-◌, ◌^◌, vec_len}
use Rattle.std.specs.Prelude.{IsSome}
use Rattle.glob_tree.specs.Private.Gathering.{Gathers}
use Rattle.glob_tree.proofs.directory.read_rest.Given as goal

abbrev pub invariant-loop-block : goal.invariant-loop-block
invariant-loop-block g l = record {
  room : 0 < vec_len l.block;
  read : Gathers (g.D.Directory.left l.initial.directory) (g.D.Directory.left l.directory) l.initial.bytes.items l.bytes.items;
  kept : g.D.Directory.fault l.directory ≡ g.D.Directory.fault l.initial.directory;
  known : IsSome (g.D.Directory.left l.initial.directory) → IsSome (g.D.Directory.left l.directory);
}

abbrev pub decreases-loop-block : goal.decreases-loop-block
decreases-loop-block g l = 2 ^ 64 - vec_len l.bytes
