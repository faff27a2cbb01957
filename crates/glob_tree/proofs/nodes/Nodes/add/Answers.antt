use Rattle.std.proofs.Common.{ap, ◌∙◌}
use Rattle.glob_tree.specs.Private.Nodes.{entries_of_nodes}
use Rattle.glob_tree.specs.declared.nodes.Node.{Node}
use Rattle.glob_tree.proofs.MemoryLemmas.Nodes.{AreNodes}
use Rattle.glob_tree.proofs.MemoryLemmas.Numbers.{held_more, after_more, content_more}
use Rattle.glob_tree.proofs.nodes.Nodes.add.Goals as goal

pub invariant_of-self-2 : goal.invariant_of-self-2
invariant_of-self-2 g c =
    let are : AreNodes c.self.inside.nodes.items c.args.self.now = record {
      is = c.self.view_is;
      after =
          c.self.invariant.0;
      content = c.self.invariant.1;
    } in
    let node : Node _ = record { parent = c.args.directory; name = c.args.name; kind = c.args.kind } in
    let r = c.requires in
    rw c.in_ok-push.ensures.items (
      after_more _ _ are node r.inside r.directory r.utf8 r.proper r.free,
      content_more _
          _ are node r.inside r.directory r.utf8 r.proper r.free,
    )

pub returns-clause-added : goal.returns-clause-added
returns-clause-added g c =
    let are : AreNodes c.self.inside.nodes.items c.args.self.now = record {
      is = c.self.view_is;
      after =
          c.self.invariant.0;
      content = c.self.invariant.1;
    } in
    let node : Node _ = record { parent = c.args.directory; name = c.args.name; kind = c.args.kind } in
    let r = c.requires in
    ap entries_of_nodes c.in_ok-push.ensures.items ∙ held_more _ _ are node r.inside r.directory r.utf8 r.proper r.free
