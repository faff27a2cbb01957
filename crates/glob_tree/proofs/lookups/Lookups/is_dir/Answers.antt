use Rattle.glob_tree.proofs.SystemLemmas.Reporting.{kind_of_look}
use Rattle.glob_tree.proofs.lookups.Lookups.is_dir.Goals as goal

pub returns-clause-said : goal.returns-clause-said
returns-clause-said g c = λ f held direct.
    kind_of_look c.args.self.now.links f c.args.path.now c.in_ok-look_at.field-0 c.is_dir.result c.is_dir.ensures _ _
    (c.in_ok-look_at.ensures.said f held direct)
