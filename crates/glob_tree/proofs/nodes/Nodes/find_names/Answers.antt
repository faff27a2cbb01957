use Rattle.std.proofs.Common.{sym, ap, ◌∙◌}
use Rattle.std.specs.List.{list_all}
use Rattle.glob_tree.specs.Paths.{is_proper}
use Rattle.glob_tree.specs.Private.Numbers.{directory_names}
use Rattle.glob_tree.proofs.MemoryLemmas.Keys.{find_directory}
use Rattle.glob_tree.proofs.nodes.Nodes.find_names.Goals as goal

pub returns-in-Some : goal.returns-in-Some
returns-in-Some g c =
    let root = c.root-in-Some.ensures in
    let proper = ap (λ names. list_all is_proper (directory_names names)) (sym c.in-Some.is) ∙ c.requires in
    rw c.in-Some.is (find_directory c.args.self.now c.root-in-Some.result root.content root.root c.in-Some.names.now
    proper c.find.result c.find.ensures)
