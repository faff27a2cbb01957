use Rattle.std.proofs.Common.{◌≡◌, ◌++◌, List, map, false}
use Rattle.glob_text.specs.Text.{Text}
use Rattle.glob_walk.specs.Goal.{are_plain}
use Rattle.glob_walk.proofs.plain.are_plain.Given as goal

abbrev pub invariant-loop-component : goal.invariant-loop-component
invariant-loop-component l =
    (rest : List Text) → are_plain false (map (λ component. component.now) l.yielded ++ rest) ≡ are_plain l.after_recursive rest
