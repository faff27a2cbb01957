-- What a match reads of a pattern's tokens.
use Rattle.std.specs.Prelude.{◌-◌, List, length, take, drop}
use Rattle.glob_pattern.specs.Grammar.Tokens.{Token}
use Rattle.glob_pattern.specs.Private.Automata.{IsAutomaton}
use Rattle.glob_pattern.specs.Private.Ends.{IsEnds}
use Rattle.glob_pattern.specs.Private.Needles.{IsNeedle}
use Rattle.glob_pattern.specs.declared.pattern.automaton.Automaton.{Automaton}
use Rattle.glob_pattern.specs.declared.pattern.ends.Ends.{Ends}
use Rattle.glob_pattern.specs.declared.pattern.needle.Needle.{Needle}

-- the ends of the tokens, and a needle and the automaton of those between the ends
pub record IsCompiled {A : Type 0} (tokens : List Token) (ends : Ends) (needle : Needle) (automaton : Automaton A) : Type 0 where
  pub at_ends : IsEnds tokens ends
  pub inside : IsNeedle (take (length tokens - ends.trail - ends.lead) (drop ends.lead tokens)) needle
  pub between : IsAutomaton (drop ends.lead tokens) (length tokens - ends.trail - ends.lead) automaton
