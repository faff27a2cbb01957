use Rattle.glob_set.proofs.ReadLemmas.{IfErr-memory}
use Rattle.glob_set.proofs.set.PatternSet.from_texts.Goals as goal

pub returns-in_err-new-clause-refused : goal.returns-in_err-new-clause-refused
returns-in_err-new-clause-refused g c = IfErr-memory _ _ c.from_residual-in_err-new.ensures.1
