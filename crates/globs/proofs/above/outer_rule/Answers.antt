use Rattle.std.proofs.Common.{ap, arith, refl, ◌∙◌}
use Rattle.glob_tree.specs.Paths.{join}
use Rattle.globs.proofs.AboveLemmas.{rules-step}
use Rattle.globs.proofs.above.outer_rule.Goals as goal

pub loop-index-preserved : goal.loop-index-preserved
loop-index-preserved g c =
    rules-step c.args.lists.now c.loop-index.index _ c.index-lists-index.result c.args.name.now _ c.in_ok-rule.rule
    c.loop-index.last _ _ (omega (arith, c.loop-index-test.true)) refl c.index-lists-index.is
    (c.as_str-in-loop-index.ensures.value ∙ c.in_ok-path.ensures ∙ ap (λ p. join p c.args.name.now) c.as_str.ensures.value)
    c.in_ok-rule.ensures.rule c.later_rule-last.ensures c.loop-index.invariant
