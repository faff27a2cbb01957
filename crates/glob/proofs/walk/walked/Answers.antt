use Rattle.glob.proofs.walk.walked.Goals as goal

pub returns-clause-whole : goal.returns-clause-whole
returns-clause-whole g c = (c.in_ok-paths.paths, c.in_ok-paths.was, c.whole.ensures)
