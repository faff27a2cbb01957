use Rattle.std.proofs.Common.{◌≡◌, sym, subst, ◌∙◌}
use Rattle.glob_tree.specs.Content.{look_result}
use Rattle.glob_tree.specs.Memory.{MemoryTree}
use Rattle.glob_tree.specs.declared.tree.Look.TheVariants as look
use Rattle.glob_tree.proofs.MemoryLemmas.Answering.{nothing_there, kind_there, look_of-directory, look_of-other}
use Rattle.glob_tree.proofs.mem_tree.MemTree.seen.Goals as goal

pub returns-in_default : goal.returns-in_default
returns-in_default g c =
    let answers = nothing_there c.self.inside.nodes c.self.inside.current c.args.path.now c.find.result c.find.ensures c.in_default.is in
    subst (λ (t : MemoryTree). look.Missing ≡ look_result t.content c.args.path.now) c.self.view_is (sym answers.look)

pub returns-then-is_dir : goal.returns-then-is_dir
returns-then-is_dir g c =
    let answers = kind_there c.self.inside.nodes c.self.inside.current c.args.path.now c.find.result c.in-Some.number
    c.kind.result c.find.ensures c.in-Some.is c.kind.ensures.stands in
    subst (λ (t : MemoryTree). look.Dir ≡ look_result t.content c.args.path.now) c.self.view_is
    (sym (answers.look ∙ look_of-directory c.kind.result (sym c.if-is_dir.ensures)))

pub returns : goal.returns
returns g c =
    let answers = kind_there c.self.inside.nodes c.self.inside.current c.args.path.now c.find.result c.in-Some.number
    c.kind.result c.find.ensures c.in-Some.is c.kind.ensures.stands in
    subst (λ (t : MemoryTree). look.Other ≡ look_result t.content c.args.path.now) c.self.view_is
    (sym (answers.look ∙ look_of-other c.kind.result (sym c.if-is_dir.ensures)))
