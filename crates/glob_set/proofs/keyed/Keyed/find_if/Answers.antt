use Rattle.glob_set.proofs.KeyedLemmas.{KeepsAll-same}
use Rattle.glob_set.proofs.keyed.Keyed.find_if.Goals as goal

pub returns-else-is_asked-clause-kept : goal.returns-else-is_asked-clause-kept
returns-else-is_asked-clause-kept g c = KeepsAll-same c.args.found.now
