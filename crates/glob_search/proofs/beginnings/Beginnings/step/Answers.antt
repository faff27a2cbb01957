use Rattle.std.proofs.Common.{◌≡◌, Some, sym, ap, ◌∙◌}
use Rattle.std.specs.Prelude.{slice_get, option_copied}
use Rattle.glob_search.proofs.BeginningLemmas.Adding.{Steps-some, ok-then}
use Rattle.glob_search.proofs.beginnings.Beginnings.step.Goals as goal

pub returns : goal.returns
returns g c front tree =
    let nodes = c.args.self.now.nodes.items in
    let node = c.in-Some.node.now in
    let at : slice_get nodes c.args.number ≡ Some node = sym c.node.ensures ∙ ap option_copied c.in-Some.is in
    ok-then c.step_wild.result c.step_wild.ensures
    (λ _ wild. Steps-some nodes c.args.self.now.options c.args.name.now c.args.key.now c.args.number node
    c.args.next.now.items c.stay.new.next.items c.step_literal.new.next.items c.step_wild.new.next.items at
    c.in_ok-stay.ensures (c.in_ok-step_literal.ensures (tree.each c.args.number node at).ascend) wild)
