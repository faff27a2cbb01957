-- No number after those that are left is the number of a match.
use Rattle.std.proofs.Common.{◌≤◌, length}
use Rattle.glob_set.proofs.AskingLemmas.{NoneAfter}
use Rattle.glob_set.proofs.set.PatternSet.last_of.Given as goal

abbrev pub invariant-loop-left : goal.invariant-loop-left
invariant-loop-left g l = record {
  within : l.left ≤ length l.numbers;
  none : NoneAfter l.self.options l.self.patterns l.text l.numbers l.left;
}

abbrev pub decreases-loop-left : goal.decreases-loop-left
decreases-loop-left g l = l.left
