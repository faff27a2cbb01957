-- After the change no pattern so far matches the text.
use Rattle.std.proofs.Common.{take}
use Rattle.std.specs.Prelude.{All}
use Rattle.globs.specs.Explain.Hints.{GivesMatch}
use Rattle.globs.proofs.explain.hints.Change.gives_any.Given as goal

abbrev pub invariant-loop-pattern : goal.invariant-loop-pattern
invariant-loop-pattern g l = All (λ p. ¬ (GivesMatch l.self l.options p.now l.text)) (take l.pattern-index l.patterns)
