use Rattle.std.proofs.Common.{◌≡◌, ◌<◌, Some, arith, length, vec_len, refl}
use Rattle.std.specs.Prelude.{slice_get}
use Rattle.std.proofs.lemmas.Option.{slice_get_read}
use Rattle.glob_search.proofs.NodeLemmas.{within-changed}
use Rattle.glob_search.proofs.BeginningLemmas.Growing.{mark-marked, mark-tree}
use Rattle.glob_search.proofs.beginnings.Beginnings.mark_whole.Goals as goal

pub invariant_of-self : goal.invariant_of-self
invariant_of-self g c = record {
  some = c.args.self.now.some;
  within = within-changed c.args.self.now.nodes.items (vec_len c.args.self.now.nodes) c.args.at c.index_mut.result.now
      c.mark_whole.new.self c.index_mut.ensures.value
      (omega (arith, c.requires, c.args.self.now.nodes.ok.0)) c.args.self.now.within (c.mark_whole.ensures.within _);
}

pub returns-clause-tree : goal.returns-clause-tree
returns-clause-tree g c front tree =
    let nodes = c.args.self.now.nodes in
    let at = c.args.at in
    let node = c.index_mut.result.now in
    let lt : at < length nodes.items = omega (arith, c.requires, nodes.ok.0) in
    let is : slice_get nodes.items at ≡ Some node = slice_get_read nodes.items (length nodes.items) at node refl lt
    c.index_mut.ensures.value in
    mark-tree c.args.self.now.options nodes.items front tree at node c.mark_whole.new.self is
    (c.mark_whole.ensures.node _ front at (tree.each at node is)) c.mark_whole.ensures.leads

pub returns-clause-marked : goal.returns-clause-marked
returns-clause-marked g c =
    let nodes = c.args.self.now.nodes in
    mark-marked nodes.items c.args.at c.mark_whole.new.self (omega (arith, c.requires, nodes.ok.0)) c.mark_whole.ensures.whole
