use Rattle.std.proofs.Common.{◌≡◌, ◌++◌, List, [], Some, map}
use Rattle.glob.specs.Content.{steps}
use Rattle.glob.specs.Text.{Text}
use Rattle.glob_examples.specs.OneFile.{key_seen, one_file}
use Rattle.glob_examples.proofs.one_file.look_below.Given as goal

abbrev pub invariant-loop-piece : goal.invariant-loop-piece
invariant-loop-piece l =
    (rest : List Text) → steps (one_file l.name) (Some []) (map (λ piece. piece.now) l.yielded ++ rest) ≡
    steps (one_file l.name) (key_seen l.name l.at) rest
