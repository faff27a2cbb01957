use Rattle.std.proofs.Common.{sym, ap, ◌∙◌}
use Rattle.std.proofs.lemmas.Bool.{eqb-true, eqb-false}
use Rattle.std.proofs.lemmas.List.{nil_from_length}
use Rattle.glob_tree.specs.Content.{resolve}
use Rattle.glob_tree.specs.Private.Nodes.{content_at}
use Rattle.glob_tree.proofs.MemoryLemmas.Nodes.{not_zero}
use Rattle.glob_tree.proofs.ContentLemmas.Resolving.{resolve_empty}
use Rattle.glob_tree.proofs.MemoryLemmas.Following.{resolve_from}
use Rattle.glob_tree.proofs.nodes.Nodes.find.Goals as goal

pub returns-then-is_empty : goal.returns-then-is_empty
returns-then-is_empty g c =
    let none = nil_from_length c.args.path.now (eqb-true _ 0 (sym c.if-is_empty.ensures)) in
    (sym (ap (resolve (content_at c.args.self.now c.args.current)) none ∙ resolve_empty _), tt)

pub returns : goal.returns
returns g c =
    let some = not_zero _ (eqb-false _ 0 (sym c.if-is_empty.ensures)) in (
      c.follow.ensures.0 ∙ sym (resolve_from c.args.self.now c.args.current c.origin.result c.args.path.now some
          c.origin.ensures.key),
      c.follow.ensures.1,
    )
