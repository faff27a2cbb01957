use Rattle.std.proofs.Common.{ap, ◌∙◌}
use Rattle.glob_tree.specs.Private.Nodes.{entry_numbered}
use Rattle.glob_tree.proofs.MemoryLemmas.Nodes.{AreNodes, root_is}
use Rattle.glob_tree.proofs.MemoryLemmas.Numbers.{IsNode-from_get, kind_at-numbered}
use Rattle.glob_tree.proofs.nodes.Nodes.node.Goals as goal

pub returns-then-number-eq0 : goal.returns-then-number-eq0
returns-then-number-eq0 g c =
    let are : AreNodes c.self.inside.nodes.items c.args.self.now = record {
      is = c.self.view_is;
      after =
          c.self.invariant.0;
      content = c.self.invariant.1;
    } in
    record {
      node = (c.if-number-eq0.true, ap (λ n. entry_numbered c.args.self.now n) c.if-number-eq0.true ∙ root_is _ _ are);
      stands = kind_at-numbered _ _ are c.args.number c.requires;
    }

pub returns : goal.returns
returns g c =
    let are : AreNodes c.self.inside.nodes.items c.args.self.now = record {
      is = c.self.view_is;
      after =
          c.self.invariant.0;
      content = c.self.invariant.1;
    } in
    record {
      node = IsNode-from_get _ _ are c.as_slice-nodes.result.now c.as_slice-nodes.ensures.value c.args.number
          c.if-number-eq0.false c.requires c.get.result c.get.ensures.lookup.3;
      stands = kind_at-numbered _ _ are c.args.number c.requires;
    }
