-- The kinds are those of the keys so far.
use Rattle.std.proofs.Common.{ℕ, ◌<◌, get_or, None, IfSome}
use Rattle.glob_set.specs.Private.Keys.{HasKind}
use Rattle.glob_set.proofs.key.kinds_of.Given as goal

abbrev pub invariant-loop-key : goal.invariant-loop-key
invariant-loop-key l = (k : ℕ) → k < l.key-index → IfSome (get_or l.keys k None) (HasKind l.kinds)
