use Rattle.std.proofs.Common.{refl}
use Rattle.globs.specs.GitNaming.{NamesAround}
use Rattle.globs.proofs.GitLemmas.{status-kept}
use Rattle.globs.proofs.ignore.git_naming.name_around.Goals as goal

pub returns-clause-named : goal.returns-clause-named
unfolding NamesAround
returns-clause-named g c r is = (
  c.write_selected-status.result,
  c.write_selected-status.ensures.written _ _ (r, is, refl, refl),
  status-kept _ _ _ c.report-status.ensures.kept c.report.ensures.kept,
)
