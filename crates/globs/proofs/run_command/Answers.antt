use Rattle.std.proofs.Common.{refl}
use Rattle.globs.specs.Outcomes.{Fulfils}
use Rattle.globs.proofs.run_command.Goals as goal

pub returns-in-Find-clause-request : goal.returns-in-Find-clause-request
unfolding Fulfils
returns-in-Find-clause-request g c = rw c.in-Find.is ((c.requires, refl), c.find_asked.ensures.found)
