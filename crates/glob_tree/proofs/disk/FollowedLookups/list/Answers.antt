use Rattle.glob_tree.proofs.SystemLemmas.Saying.{exact_fault, listed_exactly}
use Rattle.glob_tree.proofs.disk.FollowedLookups.list.Goals as goal

pub returns-clause-entries : goal.returns-clause-entries
returns-clause-entries g c = λ f held.
    listed_exactly f c.args.path.now c.args.kinds c.entries.result (c.entries.ensures.said f held) c.entries.ensures.left_out
    (c.entries.ensures.named f held) (c.entries.ensures.strays f held)

pub returns-clause-fails : goal.returns-clause-fails
returns-clause-fails g c = λ f held. exact_fault f c.args.path.now c.entries.result (c.entries.ensures.fails f held)
