use Rattle.std.proofs.Common.{[], ◌∷◌, ◌++◌, ap, ◌∙◌}
use Rattle.glob_tree.specs.Paths.{nul}
use Rattle.glob_tree.proofs.SystemLemmas.Holding.{bytes_more}
use Rattle.glob_tree.proofs.mem_system.bytes_of.Goals as goal

pub loop-entry-preserved : goal.loop-entry-preserved
loop-entry-preserved g c =
    c.in_ok-push.ensures.items
    ∙ ap (λ bs. bs ++ nul ∷ []) (c.in_ok-extend_from_slice.ensures.items ∙ ap (λ t. c.loop-entry.bytes.items ++ t)
    (c.as_bytes.ensures.value ∙ c.as_str.ensures))
    ∙ bytes_more c.args.entries.now c.loop-entry.entry-index c.entry-item.result c.loop-entry-test.true c.entry-item.is
    c.loop-entry.bytes.items c.loop-entry.invariant
