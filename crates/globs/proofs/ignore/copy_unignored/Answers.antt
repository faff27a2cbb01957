use Rattle.globs.specs.Unignored.{CopiesList}
use Rattle.globs.proofs.ignore.copy_unignored.Goals as goal

pub returns-clause-copied : goal.returns-clause-copied
unfolding CopiesList
returns-clause-copied g c = (c.copy-status.result, c.copy-status.ensures.copied, c.report.ensures.kept)
