use Rattle.std.proofs.lemmas.Result.{IfOk-weaker}
use Rattle.globs.proofs.GitLemmas.{decided-by, decided-no_text}
use Rattle.globs.proofs.ignore.git_naming.decided_by_git.Goals as goal

pub returns-in-Some-clause-decides : goal.returns-in-Some-clause-decides
returns-in-Some-clause-decides g c r is =
    IfOk-weaker c.deciding_rule.result _ _
    (λ rule says. decided-by r c.args.bytes.now c.in-Some.path.now c.is_directory.result _ c.in-Some.ensures c.is_directory.ensures says)
    (c.deciding_rule.ensures.decides r is)

pub returns-in-None-clause-decides : goal.returns-in-None-clause-decides
returns-in-None-clause-decides g c r is = decided-no_text r c.args.bytes.now c.in-None.ensures
