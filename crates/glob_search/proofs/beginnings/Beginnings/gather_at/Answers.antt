use Rattle.std.proofs.Common.{◌≡◌, ◌<◌, Some, arith, length, refl, vec_len}
use Rattle.std.specs.Prelude.{slice_get}
use Rattle.std.proofs.lemmas.Option.{slice_get_read}
use Rattle.glob_search.proofs.BeginningLemmas.Gathering.{beginnings-gathered}
use Rattle.glob_search.proofs.NodeLemmas.{within-changed}
use Rattle.glob_search.proofs.beginnings.Beginnings.gather_at.Goals as goal

pub invariant_of-self : goal.invariant_of-self
invariant_of-self g c = record {
  some = c.args.self.now.some;
  within = within-changed c.args.self.now.nodes.items (vec_len c.args.self.now.nodes) c.args.at c.index_mut.result.now
      c.gather.new.self c.index_mut.ensures.value
      (omega (arith, c.requires, c.args.self.now.nodes.ok.0)) c.args.self.now.within (c.gather.ensures.within _);
}

pub returns-clause-begins : goal.returns-clause-begins
returns-clause-begins g c = λ o patterns had.
    let b = c.args.self.now in
    let nodes = b.nodes.items in
    let at = c.args.at in
    let node = c.index_mut.result.now in
    let lt : at < length nodes = omega (arith, c.requires, b.nodes.ok.0) in
    let is : slice_get nodes at ≡ Some node = slice_get_read nodes (length nodes) at node refl lt c.index_mut.ensures.value in
    beginnings-gathered o patterns b _ at node c.gather.new.self refl refl is (λ front. c.gather.ensures.node b.options front at)
    c.gather.ensures.leads c.gather.ensures.whole had
