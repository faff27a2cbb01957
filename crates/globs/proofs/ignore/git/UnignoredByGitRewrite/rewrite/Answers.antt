use Rattle.globs.proofs.ignore.git.UnignoredByGitRewrite.rewrite.Goals as goal

pub returns-in_err-is_unignored-clause-keeps : goal.returns-in_err-is_unignored-clause-keeps
returns-in_err-is_unignored-clause-keeps g c selects write (r, is, s, t) = (r, c.is_unignored.ensures.keeps r is, s, t)
