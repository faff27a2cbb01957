use Rattle.std.proofs.Common.{◌≡◌, ◌+◌, ◌-◌, length, arith}
use Rattle.glob_pattern.proofs.MatchingLemmas.Stripped.{HasLiterals-before}
use Rattle.glob_pattern.proofs.pattern.ends.trailing_literals.Goals as goal

pub loop-literals-preserved : goal.loop-literals-preserved
loop-literals-preserved g c =
    let tokens = c.args.tokens.now in
    let n = length tokens - 1 - c.loop-literals.literals.count in
    let next : length tokens - c.loop-literals.literals.count ≡ n + 1 = omega (arith, c.loop-literals-test.true) in
    let place : length tokens - (c.loop-literals.literals.count + 1) ≡ n = omega arith in
    rw (c.in-Some.ensures.count, c.in-Some.ensures.bytes, place) (record {
      within = omega (arith, c.loop-literals-test.true);
      literals = HasLiterals-before tokens n _ c.loop-literals.literals.bytes c.index-tokens-tokens.result
          (omega (arith, c.loop-literals-test.true)) c.index-tokens-tokens.is c.in-Literal.is
          (rw next at c.loop-literals.invariant.literals);
    })
