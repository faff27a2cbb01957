use Rattle.std.proofs.Common.{◌≡◌, ◌<◌, List, length, Some}
use Rattle.std.specs.Iterator.{AlwaysYields}
use Rattle.std.specs.Str.Iter.{split_steps}
use Rattle.std.specs.Str.Pattern.{FindsChar}
use Rattle.glob_text.specs.Text.{Text}
use Rattle.glob_text.specs.Pieces.{pieces}
use Rattle.glob_tree.specs.Content.{steps}
use Rattle.glob_tree.specs.Private.Nodes.{key_numbered, rooted_content}
use Rattle.glob_tree.proofs.nodes.Nodes.follow.Given as goal

-- the remaining pieces lead on from the number
abbrev pub invariant-loop-piece : goal.invariant-loop-piece
invariant-loop-piece g l = record {
  inside : l.number < length l.self;
  left : (rest : List Text) × AlwaysYields (split_steps FindsChar (λ a b. b ≡ a)) (λ x. x.now) l.piece-iterator rest
      × (steps (rooted_content l.self) (Some (key_numbered l.self l.start)) (pieces l.path) ≡ steps
      (rooted_content l.self) (Some (key_numbered l.self l.number)) rest);
}
