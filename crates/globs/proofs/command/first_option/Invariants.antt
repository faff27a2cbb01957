-- The first option of the remaining words is the first option of all words.
use Rattle.std.proofs.Common.{◌≡◌, drop, map}
use Rattle.globs.specs.CommandLine.{first_option}
use Rattle.globs.proofs.command.first_option.Given as goal

abbrev pub invariant-loop-word : goal.invariant-loop-word
invariant-loop-word l =
    first_option (map (λ w. w.now) (drop l.word-index l.words)) ≡ first_option (map (λ w. w.now) l.words)
