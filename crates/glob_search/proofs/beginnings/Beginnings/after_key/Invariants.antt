use Rattle.std.proofs.Common.{ℕ, List, [], take}
use Rattle.glob_text.specs.Text.{Text}
use Rattle.glob_search.specs.Private.Nodes.{Adds, IsTree, StepsFrom}
use Rattle.glob_search.proofs.beginnings.Beginnings.after_key.Given as goal

abbrev pub invariant-loop-number : goal.invariant-loop-number
invariant-loop-number g l =
    (front : ℕ → List Text) → IsTree l.fn.self.options l.fn.self.nodes.items front
    → Adds (StepsFrom l.fn.self.nodes.items l.fn.self.options l.fn.name l.fn.key (take l.number-index l.fn.alive)) [] l.next.items
