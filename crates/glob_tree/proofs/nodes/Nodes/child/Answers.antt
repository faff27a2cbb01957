use Rattle.std.proofs.Common.{sym, ap, ◌∙◌}
use Rattle.std.specs.Prelude.{position}
use Rattle.glob_tree.specs.Private.Numbers.{is_named}
use Rattle.glob_tree.proofs.MemoryLemmas.Nodes.{AreNodes}
use Rattle.glob_tree.proofs.MemoryLemmas.Numbers.{child_some, child_none}
use Rattle.glob_tree.proofs.nodes.Nodes.child.Goals as goal

pub returns-in_err-place : goal.returns-in_err-place
returns-in_err-place g c =
    let are : AreNodes c.self.inside.nodes.items c.args.self.now = record {
      is = c.self.view_is;
      after =
          c.self.invariant.0;
      content = c.self.invariant.1;
    } in
    let none = ap (position (is_named c.args.directory c.args.name.now)) (sym c.as_slice.ensures.value) ∙
    (sym c.place_of.ensures ∙ c.in_err-place.was) in
    rw c.from_residual.ensures (sym (child_none _ _ are c.args.directory c.args.name.now c.requires none), tt)

pub returns : goal.returns
returns g c =
    let are : AreNodes c.self.inside.nodes.items c.args.self.now = record {
      is = c.self.view_is;
      after =
          c.self.invariant.0;
      content = c.self.invariant.1;
    } in
    let some = ap (position (is_named c.args.directory c.args.name.now)) (sym c.as_slice.ensures.value) ∙
    (sym c.place_of.ensures ∙ c.in_ok-place.was) in
    child_some _ _ are c.args.directory c.args.name.now c.in_ok-place.place some
