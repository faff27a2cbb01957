-- The bytes read so far are gathered.
use Rattle.std.proofs.Common.{◌≡◌, [], ◌<◌, length}
use Rattle.std.specs.Prelude.{IsSome}
use Rattle.glob_tree.specs.Private.Gathering.{Gathers}
use Rattle.glob_tree.proofs.directory.read_directory.Given as goal

abbrev pub invariant-loop : goal.invariant-loop
invariant-loop g l = record {
  room : 0 < length l.block;
  read : Gathers (g.D.Directory.left l.initial.directory) (g.D.Directory.left l.directory) [] l.bytes.items;
  kept : g.D.Directory.fault l.directory ≡ g.D.Directory.fault l.initial.directory;
  known : IsSome (g.D.Directory.left l.initial.directory) → IsSome (g.D.Directory.left l.directory);
}
