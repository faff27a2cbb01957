-- The rest, under the options so far, asks for the same as all words.
use Rattle.std.proofs.Common.{◌≡◌, length, map}
use Rattle.globs.specs.CommandLine.{reading}
use Rattle.globs.specs.Options.{new_options}
use Rattle.globs.proofs.command.Asked.parse.Given as goal

abbrev pub invariant-loop-rest : goal.invariant-loop-rest
invariant-loop-rest g l =
    reading l.name l.options (map (λ w. w.now) l.rest) ≡ reading l.name (new_options l.name) (map (λ w. w.now) l.words)

abbrev pub decreases-loop-rest : goal.decreases-loop-rest
decreases-loop-rest g l = length l.rest
