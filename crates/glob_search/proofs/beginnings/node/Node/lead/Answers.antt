use Rattle.std.proofs.Common.{◌≡◌, [], ◌∷◌, ◌++◌, subst}
use Rattle.glob_search.specs.Private.NodeGrowth.{FitsKind, component_text}
use Rattle.glob_search.proofs.beginnings.node.Node.lead.Goals as goal

pub returns-in-Wild-clause-leads : goal.returns-in-Wild-clause-leads
returns-in-Wild-clause-leads g c o front k h fits led free is =
    let kind = subst (FitsKind o) c.in-Wild.is fits in
    c.lead_wild.ensures.leads o front k h kind.0 kind.1 (subst (λ x. front c.args.node ≡ front k ++ component_text x ∷ []) c.in-Wild.is is)
