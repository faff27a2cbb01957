-- The rest, under the options and the limit so far, asks for the same as all words.
use Rattle.std.proofs.Common.{◌≡◌, ◌-◌, ◌^◌, length, map}
use Rattle.glob.specs.Matching.Options.{new_options}
use Rattle.glob_run.specs.CommandLine.{paths_request}
use Rattle.glob_run.proofs.command.Command.parse_find.Given as goal

abbrev pub invariant-loop-rest : goal.invariant-loop-rest
invariant-loop-rest l =
    paths_request l.options l.limit (map (λ w. w.now) l.rest)
    ≡ paths_request new_options (2 ^ 64 - 1) (map (λ w. w.now) l.words)

abbrev pub decreases-loop-rest : goal.decreases-loop-rest
decreases-loop-rest l = length l.rest
