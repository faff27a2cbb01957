-- The pieces that are left lead from the key to where the path leads.
use Rattle.std.proofs.Common.{◌≡◌, List, Some}
use Rattle.std.specs.Iterator.{AlwaysYields}
use Rattle.std.specs.Str.Iter.{split_steps}
use Rattle.std.specs.Str.Pattern.{FindsChar}
use Rattle.glob.specs.Text.{Text}
use Rattle.glob_tree.specs.Content.{resolve, steps}
use Rattle.glob_replay_walks.specs.MemFiles.{content_of, key_of}
use Rattle.glob_replay_walks.proofs.mem_files.MemFiles.resolve.Given as goal

abbrev pub invariant-loop-piece : goal.invariant-loop-piece
invariant-loop-piece g l =
    (rest : List Text) × AlwaysYields (split_steps FindsChar (λ a b. b ≡ a)) (λ x. x.now) l.piece-iterator rest
    × (resolve (content_of l.self.kinds.items) l.path ≡ steps (content_of l.self.kinds.items) (Some (key_of l.at.items)) rest)
