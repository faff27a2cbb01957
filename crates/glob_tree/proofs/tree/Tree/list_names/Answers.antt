use Rattle.glob_tree.specs.Content.{list_result}
use Rattle.glob_tree.proofs.ContentLemmas.Names.{names_result}
use Rattle.glob_tree.proofs.tree.Tree.list_names.Goals as goal

pub returns-clause-names : goal.returns-clause-names
returns-clause-names g c = λ x told. names_result (list_result x c.args.path.now) c.list.result (c.list.ensures.entries x told)
