use Rattle.std.proofs.Common.{◌≡◌, ◌++◌, List, map, None}
use Rattle.glob_text.specs.Text.{Text}
use Rattle.glob_walk.specs.Components.{first_fault}
use Rattle.glob_walk.specs.Private.Merging.{merged, merged_after}
use Rattle.glob_walk.proofs.plan.read_components.Given as goal

abbrev pub invariant-loop-piece : goal.invariant-loop-piece
invariant-loop-piece g l = record {
  read : (rest : List Text) → merged (map (λ piece. piece.now) l.yielded ++ rest) ≡ l.components.items ++ merged_after
      l.after_recursive rest;
  accepted : first_fault (map (λ piece. piece.now) l.yielded) ≡ None;
}
