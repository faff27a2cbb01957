use Rattle.std.proofs.Common.{sym, subst, ◌∙◌}
use Rattle.glob_tree.specs.Memory.{MemoryTree}
use Rattle.glob_tree.specs.Private.Places.{IsDirectoryOf}
use Rattle.glob_tree.specs.Private.Nodes.{key_numbered}
use Rattle.glob_tree.proofs.MemoryLemmas.Memory.{is_dir_any, is_content-current}
use Rattle.glob_tree.proofs.mem_tree.MemTree.set_current.Goals as goal

pub invariant_of-self : goal.invariant_of-self
invariant_of-self g c =
    let child_key = subst (λ (t : MemoryTree). IsDirectoryOf t.content c.args.path.now c.in_ok-number.number)
    (sym c.self.view_is) c.in_ok-number.ensures in
    let d = is_dir_any c.self.inside.nodes (key_numbered c.self.inside.nodes c.in_ok-number.number)
    (key_numbered c.self.inside.nodes c.self.inside.current) (key_numbered c.self.inside.nodes
    c.in_ok-number.number) ∙ child_key.directory in
    (child_key.inside, is_content-current c.self.inside.nodes c.self.inside.current c.in_ok-number.number c.self.invariant.1 d)

pub returns-clause-content : goal.returns-clause-content
returns-clause-content g c =
    let child_key = subst (λ (t : MemoryTree). IsDirectoryOf t.content c.args.path.now c.in_ok-number.number)
    (sym c.self.view_is) c.in_ok-number.ensures in
    let d = is_dir_any c.self.inside.nodes (key_numbered c.self.inside.nodes c.in_ok-number.number)
    (key_numbered c.self.inside.nodes c.self.inside.current) (key_numbered c.self.inside.nodes
    c.in_ok-number.number) ∙ child_key.directory in
    is_content-current c.self.inside.nodes c.self.inside.current c.in_ok-number.number c.self.invariant.1 d
