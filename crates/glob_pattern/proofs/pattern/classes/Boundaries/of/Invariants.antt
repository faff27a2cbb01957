use Rattle.std.proofs.Common.{take}
use Rattle.glob_pattern.specs.Private.Classes.{HasInterval, EachInterval}
use Rattle.glob_pattern.proofs.pattern.classes.Boundaries.of.Given as goal

abbrev pub invariant-loop-token : goal.invariant-loop-token
invariant-loop-token g l = EachInterval (HasInterval l.boundaries) (take l.token-index l.tokens)
