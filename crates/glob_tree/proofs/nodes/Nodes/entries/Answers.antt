use Rattle.std.proofs.Common.{sym, ap, ◌∙◌}
use Rattle.std.proofs.lemmas.Result.{IfOk-weaker}
use Rattle.std.specs.Prelude.{filter_map}
use Rattle.glob_tree.specs.Private.Numbers.{listing_entry}
use Rattle.glob_tree.proofs.MemoryLemmas.Nodes.{AreNodes}
use Rattle.glob_tree.proofs.MemoryLemmas.Numbers.{children_numbered}
use Rattle.glob_tree.proofs.nodes.Nodes.entries.Goals as goal

pub returns : goal.returns
returns g c =
    let are : AreNodes c.self.inside.nodes.items c.args.self.now = record {
      is = c.self.view_is;
      after =
          c.self.invariant.0;
      content = c.self.invariant.1;
    } in
    let all = ap (filter_map (listing_entry c.args.directory)) c.as_slice.ensures.value ∙ sym
    (children_numbered _ _ are c.args.directory c.requires) in
    IfOk-weaker c.entries_in.result _ _ (λ v list_result. list_result ∙ all) c.entries_in.ensures
