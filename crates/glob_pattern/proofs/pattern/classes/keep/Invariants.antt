use Rattle.std.proofs.Common.{ℕ, ◌+◌, ◌<◌, ◌≤◌, Bool, List}
use Rattle.glob_pattern.specs.Private.Classes.{AreNumbered, HasCut}
use Rattle.glob_pattern.proofs.pattern.classes.keep.Given as goal

abbrev pub invariant-loop-c : goal.invariant-loop-c
invariant-loop-c l =
    (cuts : List Bool)
    → AreNumbered cuts l.start l.class l.fn.classes
    → ((k : ℕ) → l.start ≤ k → k < l.start + 8 → ¬ (HasCut cuts k)) → AreNumbered cuts l.c l.class l.classes
