use Rattle.std.proofs.Common.{refl}
use Rattle.glob_set.proofs.KeyedLemmas.{KeepsAll-same, KeepsAll-full, KeepsAll-pushed, Keeps-pushed}
use Rattle.glob_set.proofs.found.Found.push.Goals as goal

pub returns-then-contains-clause-kept : goal.returns-then-contains-clause-kept
returns-then-contains-clause-kept g c = KeepsAll-same c.args.self.now

pub returns-in-Ok-clause-kept : goal.returns-in-Ok-clause-kept
returns-in-Ok-clause-kept g c = KeepsAll-pushed c.args.self.now c.push_new.new.self c.args.number
    c.in-Ok.ensures.pushed c.in-Ok.ensures.full

pub returns-in-Ok-clause-pushed : goal.returns-in-Ok-clause-pushed
returns-in-Ok-clause-pushed g c = Keeps-pushed c.args.self.now c.push_new.new.self c.args.number c.in-Ok.ensures.pushed

pub returns-in-Err-clause-kept : goal.returns-in-Err-clause-kept
returns-in-Err-clause-kept g c = KeepsAll-full c.args.self.now _ refl
