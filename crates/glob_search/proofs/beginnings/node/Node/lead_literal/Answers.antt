use Rattle.std.proofs.Common.{◌≡◌, string_bytes, arith, refl, subst}
use Rattle.glob_search.specs.Private.NodeGrowth.{IsGap}
use Rattle.glob_search.proofs.BeginningLemmas.Leading.{literal-more}
use Rattle.glob_search.proofs.beginnings.node.Node.lead_literal.Goals as goal

pub returns-clause-leads : goal.returns-clause-leads
returns-clause-leads g c o front k h key free is =
    let old = c.args.self.now in
    let text = c.args.text in
    let place = c.place_of-place.result in
    let gap : IsGap old.literals.items (string_bytes text) place =
    subst (λ t. IsGap old.literals.items t place) c.as_str.ensures.value
    (c.place_of-place.ensures.gap h.ascend (λ l in' e. free l in' (subst (λ t. string_bytes l.text ≡ t) c.as_str.ensures.value e))) in
    literal-more o front k old _ h (record { text = text; node = c.args.node }) place c.in_ok-insert.ensures.items refl refl refl refl
    (omega (arith, c.place_of-place.ensures.within, old.literals.ok.0)) gap key is
