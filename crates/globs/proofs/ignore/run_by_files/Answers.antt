use Rattle.std.proofs.Common.{sym, ◌∙◌}
use Rattle.std.proofs.lemmas.Bool.{false≢true}
use Rattle.globs.specs.Naming.{IgnoresByFiles}
use Rattle.globs.proofs.ignore.run_by_files.Goals as goal

pub returns-then-settings-clause-ignored : goal.returns-then-settings-clause-ignored
unfolding IgnoresByFiles
returns-then-settings-clause-ignored g c = (λ _. c.name_rules.ensures.named, λ off. absurd (false≢true (sym off ∙ c.if-settings.true)))

pub returns-else-settings-clause-ignored : goal.returns-else-settings-clause-ignored
unfolding IgnoresByFiles
returns-else-settings-clause-ignored g c = (λ on. absurd (false≢true (sym c.if-settings.false ∙ on)), λ _. c.copy_paths.ensures.copied)
