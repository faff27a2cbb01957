use Rattle.std.proofs.Common.{arith}
use Rattle.glob_pattern.proofs.BitLemmas.SetBits.{IsBitSet-zero}
use Rattle.glob_pattern.proofs.ClassLemmas.Separating.{one-class}
use Rattle.glob_pattern.proofs.pattern.automaton.Automaton.empty.Goals as goal

pub returns : goal.returns
returns g c = record {
  within = omega arith;
  first_word = record {
    tokens = λ j lt. (λ set. absurd (IsBitSet-zero j set), λ below. absurd (omega arith));
    wildcards = λ j lt. (λ set. absurd (IsBitSet-zero j set), λ here. absurd (omega (arith, here.0)));
    recursive = λ j lt. (λ set. absurd (IsBitSet-zero j set), λ here. absurd (omega (arith, here.0)));
  };
  all_words = λ more. absurd (omega arith);
  accepting = λ j set. absurd (IsBitSet-zero j set);
  masked = λ count enough few case. record {
    partition = one-class;
    within = λ word lt. absurd (omega (arith, few, lt));
    row = λ word lt. absurd (omega (arith, few, lt));
  };
}
