use Rattle.std.proofs.Common.{ap, ◌∙◌}
use Rattle.glob_tree.specs.Answers.{entries_of}
use Rattle.glob_tree.proofs.MemoryLemmas.EntriesIn.{listed_more, listed_same}
use Rattle.glob_tree.proofs.nodes.entries_in.Goals as goal
use Rattle.glob_tree.proofs.nodes.entries_in.Goals.{then-node-directory+in_ok-entry_at+in_ok-push, else-node-directory}

pub loop-node-preserved : goal.loop-node-preserved
loop-node-preserved g c = elim c.if-node-directory.branch [
  | then-node-directory+in_ok-entry_at+in_ok-push w ↦ rw w.entries-is (ap entries_of w.in_ok-push.ensures.items
      ∙ listed_more c.args.directory c.args.nodes.now c.loop-node.node-index c.node-item.result c.loop-node-test.true
      c.node-item.is c.loop-node.entries.items w.in_ok-entry_at.field-0
      c.loop-node.invariant w.if-node-directory.true w.in_ok-entry_at.ensures.name w.in_ok-entry_at.ensures.kind)
  | else-node-directory w ↦ rw w.entries-is (listed_same c.args.directory c.args.nodes.now c.loop-node.node-index
      c.node-item.result c.loop-node-test.true c.node-item.is c.loop-node.entries.items c.loop-node.invariant
      w.if-node-directory.false)
]
