use Rattle.std.proofs.Common.{sym, ◌∙◌}
use Rattle.glob_search.proofs.BeginningLemmas.Adding.{Enlivens-two}
use Rattle.glob_search.proofs.beginnings.Beginnings.enliven.Goals as goal

pub returns-in_ok-push-2 : goal.returns-in_ok-push-2
returns-in_ok-push-2 g c = Enlivens-two c.args.self.now.nodes.items c.args.number c.in-Some.deep c.args.alive.now.items
    c.push.new.self.items c.push-in-Some.new.self.items
    c.in_ok-push.ensures.items c.in_ok-push-2.ensures.items (sym c.deep_of.ensures ∙ c.in-Some.is)
