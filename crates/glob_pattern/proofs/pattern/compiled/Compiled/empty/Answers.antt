use Rattle.std.proofs.Common.{[], refl, arith}
use Rattle.glob_pattern.proofs.pattern.compiled.Compiled.empty.Goals as goal

pub invariant_of-result : goal.invariant_of-result
invariant_of-result g c = rw c.new.ensures.items (record {
  at_ends = record {
    ones = record { within = omega arith; first = λ j lt. absurd (omega arith); last = λ i lt. absurd (omega arith) };
    few_first = omega arith;
    few_last = omega arith;
    first = record { plain = []; tokens_are = refl; count_is = refl };
    last = record { plain = []; tokens_are = refl; count_is = refl };
  };
  inside = record { front = []; plain = []; back = []; tokens_are = refl; bytes_are = refl };
  between = c.empty.ensures;
})
