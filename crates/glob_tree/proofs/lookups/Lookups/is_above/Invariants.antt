-- The directory is above the path if it is above what is left of the path.
use Rattle.std.proofs.Common.{◌≡◌, true, length}
use denote.Shadow.{shadow}
use denote.Text.{Utf8}
use Rattle.glob_tree.specs.FileSystems.{FileSystem, IsHeld, is_above, is_direct}
use Rattle.glob_tree.specs.Private.Looking.{IsThere}
use Rattle.glob_tree.proofs.lookups.Lookups.is_above.Given as goal

abbrev pub invariant-loop-above : goal.invariant-loop-above
invariant-loop-above g l = shadow (Utf8 l.below)
    × ((f : FileSystem) → IsHeld l.self.files f → is_direct f l.path ≡ true → IsThere f l.path
    → (is_direct f l.below ≡ true) × IsThere f l.below × (is_above f l.directory l.path ≡ is_above f l.directory l.below))

abbrev pub decreases-loop-above : goal.decreases-loop-above
decreases-loop-above g l = length l.below
