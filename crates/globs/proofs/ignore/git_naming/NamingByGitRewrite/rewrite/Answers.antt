use Rattle.globs.proofs.ignore.git_naming.NamingByGitRewrite.rewrite.Goals as goal

pub returns-in_err-deciding-clause-keeps : goal.returns-in_err-deciding-clause-keeps
returns-in_err-deciding-clause-keeps g c selects write (r, is, s, t) = (r, c.decided_by_git.ensures.keeps r is, s, t)

pub returns-in_err-append_decided-in-Some-clause-keeps : goal.returns-in_err-append_decided-in-Some-clause-keeps
returns-in_err-append_decided-in-Some-clause-keeps g c selects write (r, is, s, t) =
    (r, c.append_decided.ensures.keeps r (c.decided_by_git.ensures.keeps r is), s, t)

pub returns-in_ok-append_decided-in-Some-clause-keeps : goal.returns-in_ok-append_decided-in-Some-clause-keeps
returns-in_ok-append_decided-in-Some-clause-keeps g c selects write (r, is, s, t) =
    (r, c.append_decided.ensures.keeps r (c.decided_by_git.ensures.keeps r is), s, t)

pub returns-in-None-clause-keeps : goal.returns-in-None-clause-keeps
returns-in-None-clause-keeps g c selects write (r, is, s, t) = (r, c.decided_by_git.ensures.keeps r is, s, t)
