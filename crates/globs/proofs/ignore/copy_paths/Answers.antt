use Rattle.std.proofs.Common.{inl, inr, refl}
use Rattle.globs.specs.Unignored.{CopiesUnignored}
use Rattle.globs.proofs.ignore.copy_paths.Goals as goal

pub returns-in-Ok-clause-copied : goal.returns-in-Ok-clause-copied
unfolding CopiesUnignored
returns-in-Ok-clause-copied g c = inr (c.in-Ok.list, c.in-Ok.ensures.rules, c.copy_unignored.ensures.copied)

pub returns-clause-copied : goal.returns-clause-copied
unfolding CopiesUnignored
returns-clause-copied g c = inl ((c.requires, refl), (c.report_rules.ensures, refl))
