-- The bytes so far have the strays so far.
use Rattle.std.proofs.Common.{◌≡◌, ◌++◌, take}
use Rattle.glob_tree.specs.Private.Listing.{name_bytes}
use Rattle.glob_replay_walks.specs.MemFiles.{key_of, strays_at}
use Rattle.glob_replay_walks.proofs.mem_files.add_strays.Given as goal

abbrev pub invariant-loop-stray : goal.invariant-loop-stray
invariant-loop-stray g l =
    l.bytes.items ≡ l.initial.bytes.items ++ name_bytes (strays_at (key_of l.key) (take l.stray-index l.strays))
