use Rattle.std.proofs.Common.{refl, sym, subst}
use Rattle.glob_search.specs.Private.Nodes.{Enlivens}
use Rattle.glob_search.proofs.BeginningLemmas.Adding.{Adds-none, Adds-same}
use Rattle.glob_search.proofs.beginnings.Beginnings.step_literal.Goals as goal

pub returns-in_ok-enliven : goal.returns-in_ok-enliven
returns-in_ok-enliven g c up =
    let led = c.in-Some.ensures.led up in
    let nodes = c.args.self.now.nodes.items in
    Adds-same c.args.next.now.items c.enliven.new.alive.items
    (λ k e. (led.0.0, led.0.1, led.0.2, subst (λ m. Enlivens nodes m k) (sym led.0.3) e))
    (λ k p. subst (λ m. Enlivens nodes m k) (led.1 p.0 p.1 p.2) p.3)
    c.in_ok-enliven.ensures

pub returns-in_default : goal.returns-in_default
returns-in_default g c up = Adds-none c.args.next.now.items c.args.next.now.items refl (λ k p. c.in_default.ensures.led up p.0 p.1 p.2)
