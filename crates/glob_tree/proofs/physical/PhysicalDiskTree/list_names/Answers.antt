use Rattle.glob_tree.specs.Content.{list_result}
use Rattle.glob_tree.proofs.ContentLemmas.Names.{names_result}
use Rattle.glob_tree.proofs.physical.PhysicalDiskTree.list_names.Goals as goal

pub returns-in-Followed-clause-names : goal.returns-in-Followed-clause-names
returns-in-Followed-clause-names g c = λ x told.
    names_result (list_result x c.args.path.now) c.list.result (c.list.ensures.entries x told)
