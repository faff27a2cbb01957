use Rattle.std.proofs.Common.{refl, string_bytes}
use Rattle.glob_search.proofs.EngineLemmas.Working.{may-enter}
use Rattle.glob_search.proofs.way.Way.enter_if.Goals as goal

pub returns-in_ok-path-clause-enters : goal.returns-in_ok-path-clause-enters
returns-in_ok-path-clause-enters g c =
    rw c.if-enters.true (may-enter c.args.self.now (record { path = c.in_ok-path.path; alive = c.args.alive })
    (string_bytes c.args.path.now) c.args.alive.items c.in_ok-path.ensures.cases refl)
