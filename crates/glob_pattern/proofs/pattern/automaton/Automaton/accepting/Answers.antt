use Rattle.std.proofs.Common.{◌∙◌, sym}
use Rattle.std.proofs.lemmas.Bool.{false≢true}
use Rattle.glob_pattern.proofs.BitLemmas.SetBits.{IsBitSet-zero}
use Rattle.glob_pattern.proofs.MatchingLemmas.Freely.{TakesRest-freely}
use Rattle.glob_pattern.proofs.pattern.automaton.Automaton.accepting.Goals as goal

pub returns-then-has_rules-clause-rest : goal.returns-then-has_rules-clause-rest
returns-then-has_rules-clause-rest g c = λ tokens end is opening text j set. absurd (IsBitSet-zero j set)

pub returns-else-has_rules-clause-rest : goal.returns-else-has_rules-clause-rest
returns-else-has_rules-clause-rest g c = λ tokens end is opening text j set.
    TakesRest-freely opening c.args.options tokens text end _ (sym c.has_rules.ensures ∙ c.if-has_rules.false) is.within
    (is.accepting j set)

pub returns-else-has_rules-clause-ruled : goal.returns-else-has_rules-clause-ruled
returns-else-has_rules-clause-ruled g c = λ ruled. absurd (false≢true (sym c.if-has_rules.false ∙ (c.has_rules.ensures ∙ ruled)))
