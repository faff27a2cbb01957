-- The texts so far and the rules that are left are the texts before and all rules.
use Rattle.std.proofs.Common.{◌≡◌, ◌++◌, drop, map}
use Rattle.globs.specs.Ignoring.{texts_of}
use Rattle.globs.proofs.ignoring.add_rules.Given as goal

abbrev pub invariant-loop-rule : goal.invariant-loop-rule
invariant-loop-rule g l =
    texts_of l.sources.items ++ map (λ w. w.now) (drop l.rule-index l.rules)
    ≡ texts_of l.initial.sources.items ++ map (λ w. w.now) l.rules
