-- The bytes so far have the names so far.
use Rattle.std.proofs.Common.{◌≡◌, ◌++◌, take}
use Rattle.glob_tree.specs.Private.Listing.{name_bytes}
use Rattle.glob_replay_walks.specs.MemFiles.{key_of, names_at}
use Rattle.glob_replay_walks.proofs.mem_files.add_names.Given as goal

abbrev pub invariant-loop-entry : goal.invariant-loop-entry
invariant-loop-entry g l =
    l.bytes.items ≡ l.initial.bytes.items ++ name_bytes (names_at (key_of l.key) (take l.entry-index l.kinds))
