-- The keys of the patterns so far are listed, with their starts.
use Rattle.std.proofs.Common.{[], ◌∷◌, ◌++◌, length}
use Rattle.glob_set.specs.Private.Keys.{AreListed}
use Rattle.glob_set.proofs.rarest.Listed.new.Given as goal

abbrev pub invariant-loop-pattern : goal.invariant-loop-pattern
invariant-loop-pattern g l = AreListed l.patterns l.pattern-index l.keys.items (l.starts.items ++ length l.keys.items ∷ [])
