use Rattle.std.proofs.Common.{subst, sym}
use Rattle.glob_search.specs.Private.NodeGrowth.{Led}
use Rattle.glob_search.specs.Private.Nodes.{LiteralLeads}
use Rattle.glob_search.proofs.BeginningLemmas.Growing.{led-literal}
use Rattle.glob_search.proofs.beginnings.node.Node.led_to.Goals as goal

pub returns-in-Literal-clause-led : goal.returns-in-Literal-clause-led
returns-in-Literal-clause-led g c up =
    let node = c.args.self.now in
    let r = c.literal_leads.result in
    subst (λ x. Led node x r) (sym c.in-Literal.is)
    (led-literal node c.in-Literal.text r (subst (λ t. LiteralLeads node t r) c.as_str.ensures.value (c.literal_leads.ensures.led up)))
