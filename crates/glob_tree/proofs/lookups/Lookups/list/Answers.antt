use Rattle.glob_tree.proofs.SystemLemmas.Saying.{answered_kinds, listed_by_kinds, received_fault}
use Rattle.glob_tree.proofs.lookups.Lookups.list.Goals as goal

pub returns-clause-entries : goal.returns-clause-entries
returns-clause-entries g c = λ f seen.
    listed_by_kinds f c.args.path.now c.args.kinds c.entries.result (λ looked. c.entries.ensures.entries f seen looked)
    c.entries.ensures.left_out (c.entries.ensures.named f seen.0)

pub returns-clause-fails : goal.returns-clause-fails
returns-clause-fails g c = λ f held. received_fault f c.args.path.now c.entries.result (c.entries.ensures.fails f held)

pub returns-clause-said : goal.returns-clause-said
returns-clause-said g c = λ f held looked.
    answered_kinds c.args.self.now.links f c.args.path.now _ _ c.entries.result (c.entries.ensures.said f held looked)
