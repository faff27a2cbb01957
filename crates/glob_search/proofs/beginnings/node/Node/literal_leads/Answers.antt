use Rattle.std.proofs.Common.{arith, refl}
use Rattle.glob_search.proofs.BeginningLemmas.Literals.{found, missed}
use Rattle.glob_search.proofs.beginnings.node.Node.literal_leads.Goals as goal

pub returns-in-Ok-clause-led : goal.returns-in-Ok-clause-led
returns-in-Ok-clause-led g c up =
    let node = c.args.self.now in
    found node.literals.items up c.args.text.now node c.in-Ok.place c.index.result.now refl
    (omega (arith, c.in-Ok.ensures.within, node.literals.ok.0)) c.index.ensures c.in-Ok.ensures.place

pub returns-in-Err-clause-led : goal.returns-in-Err-clause-led
returns-in-Err-clause-led g c up =
    let node = c.args.self.now in
    missed node.literals.items up c.args.text.now node _ refl c.in-Err.ensures.place
