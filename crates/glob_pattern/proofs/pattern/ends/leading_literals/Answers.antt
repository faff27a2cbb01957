use Rattle.std.proofs.Common.{arith}
use Rattle.glob_pattern.proofs.MatchingLemmas.Stripped.{HasLiterals-next}
use Rattle.glob_pattern.proofs.pattern.ends.leading_literals.Goals as goal

pub loop-c-preserved : goal.loop-c-preserved
loop-c-preserved g c =
    let look = c.in-Some-Literal.ensures.lookup in
    rw (c.in-Some.ensures.count, c.in-Some.ensures.bytes) (record {
      within = omega (arith, look.3.0);
      literals = HasLiterals-next c.args.tokens.now c.loop-c.literals.count _ c.loop-c.literals.bytes
          c.in-Some-Literal.field-0.now look.3.0 look.1 c.in-Some-Literal.field-0-is c.loop-c.invariant.literals;
    })
