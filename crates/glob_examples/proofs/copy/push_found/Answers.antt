use Rattle.std.proofs.Common.{inr}
use Rattle.glob_walk.proofs.WalkLemmas.Reading.{IfErr-from_known}
use Rattle.glob_examples.proofs.copy.push_found.Goals as goal

pub returns-in_err-item-clause-fault : goal.returns-in_err-item-clause-fault
returns-in_err-item-clause-fault g c =
    IfErr-from_known _ _ _ (λ fault is. inr (c.in_err-item.field-0.0, c.in_err-item.was, is)) c.from_residual.ensures.1
