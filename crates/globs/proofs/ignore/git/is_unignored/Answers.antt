use Rattle.globs.proofs.GitLemmas.{unignored-by, unignored-no_text}
use Rattle.globs.proofs.ignore.git.is_unignored.Goals as goal

pub returns-in_ok-ignores-in-Some-clause-selects : goal.returns-in_ok-ignores-in-Some-clause-selects
returns-in_ok-ignores-in-Some-clause-selects g c r is =
    unignored-by r c.args.bytes.now c.in-Some.path.now _ c.is_directory.result c.in-Some.ensures c.is_directory.ensures
    (c.in_ok-ignores-in-Some.ensures.ignored r is)

pub returns-in-None-clause-selects : goal.returns-in-None-clause-selects
returns-in-None-clause-selects g c r is = unignored-no_text r c.args.bytes.now c.in-None.ensures
