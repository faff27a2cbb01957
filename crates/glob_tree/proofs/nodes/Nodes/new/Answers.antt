use Rattle.std.proofs.Common.{ap, ◌∙◌}
use Rattle.glob_tree.specs.Private.Nodes.{entries_of_nodes}
use Rattle.glob_tree.proofs.MemoryLemmas.Nodes.{no_nodes, entries_of_nodes-nil}
use Rattle.glob_tree.proofs.nodes.Nodes.new.Goals as goal

pub invariant_of-result : goal.invariant_of-result
invariant_of-result g c = rw c.new.ensures.items (no_nodes _)

pub returns : goal.returns
returns g c = ap entries_of_nodes c.new.ensures.items ∙ entries_of_nodes-nil _
