-- The rest, under the options so far, asks for the same as all words.
use Rattle.std.proofs.Common.{◌≡◌, length, map}
use Rattle.glob.specs.Matching.Options.{new_options}
use Rattle.glob_run.specs.CommandLine.{lines_request}
use Rattle.glob_run.proofs.command.Command.parse_match.Given as goal

abbrev pub invariant-loop-rest : goal.invariant-loop-rest
invariant-loop-rest l =
    lines_request l.options (map (λ w. w.now) l.rest) ≡ lines_request new_options (map (λ w. w.now) l.words)

abbrev pub decreases-loop-rest : goal.decreases-loop-rest
decreases-loop-rest l = length l.rest
