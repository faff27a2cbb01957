-- The bytes so far are the bytes of the entries so far.
use Rattle.std.proofs.Common.{◌≡◌, take}
use Rattle.glob_tree.specs.Answers.{entries_of, names_of}
use Rattle.glob_tree.specs.Private.Listing.{name_bytes}
use Rattle.glob_tree.proofs.mem_system.bytes_of.Given as goal

abbrev pub invariant-loop-entry : goal.invariant-loop-entry
invariant-loop-entry g l = l.bytes.items ≡ name_bytes (names_of (entries_of (take l.entry-index l.entries)))
