use Rattle.std.proofs.Common.{refl}
use Rattle.globs.specs.ByGit.{CopiesAround}
use Rattle.globs.proofs.GitLemmas.{status-kept}
use Rattle.globs.proofs.ignore.git.copy_around.Goals as goal

pub returns-clause-copied : goal.returns-clause-copied
unfolding CopiesAround
returns-clause-copied g c r is = (
  c.write_selected-status.result,
  c.write_selected-status.ensures.written _ _ (r, is, refl, refl),
  status-kept _ _ _ c.report-status.ensures.kept c.report.ensures.kept,
)
