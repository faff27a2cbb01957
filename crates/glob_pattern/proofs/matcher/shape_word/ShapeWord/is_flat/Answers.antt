use Rattle.std.proofs.Common.{arith}
use Rattle.std.proofs.lemmas.Bool.{eqb-true}
use Rattle.glob_pattern.proofs.BitLemmas.SetBits.{IsBitSet-zero, IsBitSet-apart}
use Rattle.glob_pattern.proofs.matcher.shape_word.ShapeWord.is_flat.Goals as goal

pub returns-then-self-eq0 : goal.returns-then-self-eq0
returns-then-self-eq0 c = λ flat. record {
  free = λ j set. IsBitSet-zero j (rw c.if-self-eq0.true at set);
  apart = IsBitSet-apart c.args.self.wildcards (omega arith) (eqb-true _ 0 flat);
}
