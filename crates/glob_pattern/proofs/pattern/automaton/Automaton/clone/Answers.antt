use Rattle.std.proofs.Common.{take}
use Rattle.std.specs.List.{each_same}
use Rattle.glob_pattern.proofs.pattern.automaton.Automaton.clone.Goals as goal

pub returns : goal.returns
returns g c = λ tokens end is. record {
  within = is.within;
  first_word = is.first_word;
  all_words = rw (each_same _ _ c.in_ok-clone.ensures.cases.0) is.all_words;
  accepting = is.accepting;
  masked = λ count enough few. c.in_ok-clone-2.ensures.cases (take end tokens) count (is.masked count enough few);
}
