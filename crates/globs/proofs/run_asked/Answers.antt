use Rattle.std.proofs.Common.{refl}
use Rattle.globs.specs.Outcomes.{Fulfils}
use Rattle.globs.proofs.run_asked.Goals as goal

pub returns-in-Help-clause-request : goal.returns-in-Help-clause-request
unfolding Fulfils
returns-in-Help-clause-request g c = rw c.in-Help.is ((c.requires, refl), rw c.page_of.ensures at c.write_text.ensures.written)

pub returns-in-Version-clause-request : goal.returns-in-Version-clause-request
unfolding Fulfils
returns-in-Version-clause-request g c = rw c.in-Version.is ((c.requires, refl), c.write_text-in-Version.ensures.written)
