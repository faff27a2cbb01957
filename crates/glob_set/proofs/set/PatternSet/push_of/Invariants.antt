-- The numbers so far are the asked ones that match.
use Rattle.glob_set.proofs.AskingLemmas.{PushedSoFar}
use Rattle.glob_set.proofs.set.PatternSet.push_of.Given as goal

abbrev pub invariant-loop-number : goal.invariant-loop-number
invariant-loop-number g l = PushedSoFar l.self.options l.self.patterns l.text l.fn.numbers.items l.asked l.number-index l.numbers.items
