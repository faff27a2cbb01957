use Rattle.std.proofs.Common.{arith}
use Rattle.glob_search.proofs.BeginningLemmas.Leading.{gap-missed, not-there}
use Rattle.glob_search.proofs.beginnings.node.Node.place_of.Goals as goal

pub returns-in-Ok-clause-gap : goal.returns-in-Ok-clause-gap
returns-in-Ok-clause-gap g c up free =
    let ls = c.args.self.now.literals in
    absurd (not-there ls.items c.args.text.now c.in-Ok.place (omega (arith, c.in-Ok.ensures.within, ls.ok.0)) c.in-Ok.ensures.place free)

pub returns-in-Err-clause-gap : goal.returns-in-Err-clause-gap
returns-in-Err-clause-gap g c up free = gap-missed c.args.self.now.literals.items up c.args.text.now c.in-Err.place c.in-Err.ensures.place
