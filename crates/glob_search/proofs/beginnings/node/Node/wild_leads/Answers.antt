use Rattle.std.proofs.Common.{◌≡◌, ◌<◌, arith, length, refl, subst, sym, ◌∙◌}
use Rattle.std.specs.Prelude.{Contains}
use Rattle.std.proofs.lemmas.Slice.Eq.{bytes_eq-Decides}
use Rattle.glob_search.proofs.beginnings.node.Node.wild_leads.Goals as goal

pub returns-then-eq-clause-led : goal.returns-then-eq-clause-led
returns-then-eq-clause-led g c =
    let items = c.deref-wild-items.result.now in
    let wild = c.wild-item.result in
    let i = c.loop-wild.wild-index in
    let lt : i < length items = omega (arith, c.loop-wild-test.true, c.loop-wild.auto.wild-index-end) in
    let same : wild.pattern ≡ c.args.text.now = sym c.as_str.ensures.text ∙ (bytes_eq-Decides c.as_str.result.now
    c.args.text.now).0 (sym c.if-eq.ensures) in
    (wild, subst (λ ws. Contains ws wild) c.deref-wild-items.ensures.value (i, lt, sym c.wild-item.is), same, refl)
