use Rattle.std.proofs.Common.{◌-◌, ap, sym, ◌∙◌, arith}
use Rattle.std.specs.Prelude.{option_map}
use Rattle.glob_search.proofs.DecidingLemmas.{found-at, names-here}
use Rattle.glob_search.proofs.active.last_naming.Goals as goal

pub loop-left-preserved : goal.loop-left-preserved
loop-left-preserved g c = record {
  within = omega (arith, c.loop-left.invariant.within);
  silent =
      names-here c.args.rules.now (c.loop-left.left - 1) c.loop-left.left c.index-rules-left.result c.args.path.now
      c.below-below.result.now c.args.is_dir
      c.in_ok-rule.field-0 (omega (arith, c.loop-left.invariant.within)) (omega arith) c.index-rules-left.is
      c.below-below.ensures c.in_ok-rule.ensures.rule
      c.loop-left.invariant.silent
      ∙ ap (option_map (λ rule. (c.loop-left.left - 1, rule))) c.in_default.is;
}

pub returns-in-Some : goal.returns-in-Some
returns-in-Some g c =
    sym (found-at c.args.rules.now (c.loop-left.left - 1) c.args.path.now c.args.is_dir c.in-Some.rule
    (names-here c.args.rules.now (c.loop-left.left - 1) c.loop-left.left c.index-rules-left.result c.args.path.now
    c.below-below.result.now c.args.is_dir
    c.in_ok-rule.field-0 (omega (arith, c.loop-left.invariant.within)) (omega arith) c.index-rules-left.is
    c.below-below.ensures c.in_ok-rule.ensures.rule
    c.loop-left.invariant.silent
    ∙ ap (option_map (λ rule. (c.loop-left.left - 1, rule))) c.in-Some.is))
