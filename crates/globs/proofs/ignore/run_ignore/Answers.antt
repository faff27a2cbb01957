use Rattle.std.proofs.Common.{sym, ◌∙◌}
use Rattle.std.proofs.lemmas.Bool.{false≢true}
use Rattle.globs.specs.IgnoringPaths.{IgnoresPaths}
use Rattle.globs.proofs.ignore.run_ignore.Goals as goal

pub returns-then-settings-clause-ignored : goal.returns-then-settings-clause-ignored
unfolding IgnoresPaths
returns-then-settings-clause-ignored g c = (λ _. c.run_by_git.ensures.ignored, λ off. absurd (false≢true (sym off ∙ c.if-settings.true)))

pub returns-else-settings-clause-ignored : goal.returns-else-settings-clause-ignored
unfolding IgnoresPaths
returns-else-settings-clause-ignored g c = (λ on. absurd (false≢true (sym c.if-settings.false ∙ on)), λ _. c.run_by_files.ensures.ignored)
