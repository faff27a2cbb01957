use Rattle.std.proofs.Common.{refl}
use Rattle.globs.specs.Naming.{NamesList}
use Rattle.globs.proofs.ignore.naming.write_named.Goals as goal

pub returns-clause-named : goal.returns-clause-named
unfolding NamesList
returns-clause-named g c = (c.write_selected-status.result, c.write_selected-status.ensures.written _ _ (refl, refl), c.report.ensures.kept)
