use Rattle.glob_set.proofs.KeyedLemmas.{KeepsAll-same}
use Rattle.glob_set.proofs.keyed.Keyed.push_if.Goals as goal

pub returns-else-has_hash-clause-kept : goal.returns-else-has_hash-clause-kept
returns-else-has_hash-clause-kept g c = KeepsAll-same c.args.found.now
