use Rattle.std.proofs.Common.{arith}
use Rattle.glob_pattern.proofs.pattern.judge.mask_judge.MaskJudge.new.Goals as goal

pub invariant_of-result : goal.invariant_of-result
invariant_of-result g c = record {
  enough = c.requires.enough;
  masked = c.rows-rows.ensures c.args.judge.tokens.now c.args.words c.requires.masks;
  classed = λ stepped. absurd (omega (arith, stepped, c.requires.start));
}
