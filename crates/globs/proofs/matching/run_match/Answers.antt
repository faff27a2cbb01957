use Rattle.std.proofs.Common.{inl, refl}
use Rattle.globs.specs.Matching.{CopiesChosen}
use Rattle.globs.proofs.matching.run_match.Goals as goal

pub returns-in-Err-clause-copied : goal.returns-in-Err-clause-copied
unfolding CopiesChosen
returns-in-Err-clause-copied g c = inl ((c.requires, refl), (c.fault.ensures.status, refl))
