use Rattle.std.proofs.Common.{lit<}
use Rattle.glob_search.proofs.PieceLemmas.{first-cut, only-name}
use Rattle.glob_search.proofs.directories.first_name.Goals as goal

pub returns-in-Some-clause-cut : goal.returns-in-Some-clause-cut
returns-in-Some-clause-cut c = first-cut c.args.path.now (c.in-Some.name, c.in-Some.rest) c.in-Some.ensures.cases (lit< tt)

pub returns-in-None-clause-cut : goal.returns-in-None-clause-cut
returns-in-None-clause-cut c = only-name c.args.path.now c.in-None.ensures.cases (lit< tt)
