use Rattle.std.proofs.Common.{◌≡◌, take}
use Rattle.std.specs.Prelude.{filter_map}
use Rattle.glob_tree.specs.Answers.{entries_of}
use Rattle.glob_tree.specs.Private.Numbers.{listing_entry}
use Rattle.glob_tree.proofs.nodes.entries_in.Given as goal

-- the entries of the nodes so far
abbrev pub invariant-loop-node : goal.invariant-loop-node
invariant-loop-node g l = entries_of l.entries.items ≡ filter_map (listing_entry l.directory) (take l.node-index l.nodes)
