-- No number so far is the number of a match.
use Rattle.glob_set.proofs.AskingLemmas.{NoneBefore}
use Rattle.glob_set.proofs.set.PatternSet.first_of.Given as goal

abbrev pub invariant-loop-number : goal.invariant-loop-number
invariant-loop-number g l = NoneBefore l.self.options l.self.patterns l.text l.numbers l.number-index
