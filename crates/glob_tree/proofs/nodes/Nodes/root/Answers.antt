use Rattle.std.proofs.Common.{arith}
use Rattle.glob_tree.proofs.MemoryLemmas.Nodes.{AreNodes, root_is, length-entries}
use Rattle.glob_tree.proofs.MemoryLemmas.Numbers.{entries_are}
use Rattle.glob_tree.proofs.nodes.Nodes.root.Goals as goal

pub returns : goal.returns
returns g c =
    let are : AreNodes c.self.inside.nodes.items c.args.self.now = record {
      is = c.self.view_is;
      after =
          c.self.invariant.0;
      content = c.self.invariant.1;
    } in
    record { root = root_is _ _ are; inside = omega (arith, length-entries _ _ are); content = entries_are _ _ are }
