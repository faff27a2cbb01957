-- The whole path is reached through this directory; the directories above it are still to be looked at.
use Rattle.std.proofs.Common.{◌≡◌, ◌≢◌, true, false, [], length}
use denote.Shadow.{shadow}
use denote.Text.{Utf8}
use Rattle.glob_tree.specs.Content.{look_result}
use Rattle.glob_tree.specs.FileSystems.{FileSystem, IsHeld, is_direct}
use Rattle.glob_tree.specs.Looks.{is_directory}
use Rattle.glob_tree.specs.Private.Looking.{IsSeen, IsWay, LeadsOn}
use Rattle.glob_tree.specs.Received.{IsAtOrAbove}
use Rattle.glob_tree.proofs.lookups.Lookups.leads.Given as goal

abbrev pub invariant-loop-directory : goal.invariant-loop-directory
invariant-loop-directory g l = shadow (Utf8 l.directory)
    × (l.self.files ≡ l.initial.self.files) × (l.self.links ≡ l.initial.self.links)
    × ((f : FileSystem) → IsSeen l.initial.self.links l.initial.self.files f → IsWay f.content l.directory → IsWay f.content l.above)
    × ((f : FileSystem) → l.directory ≢ [] → is_directory (look_result f.content l.directory) ≡ false → LeadsOn f l.above false)
    × ((f : FileSystem) → IsHeld l.initial.self.files f → is_direct f l.above ≡ true → is_direct f l.directory ≡ true)
    × (g.S.Strays.paths l.self.strays ≡ g.S.Strays.paths l.initial.self.strays)
    × (g.S.Strays.names l.self.strays ≡ g.S.Strays.names l.initial.self.strays)
    × IsAtOrAbove l.directory l.above

abbrev pub decreases-loop-directory : goal.decreases-loop-directory
decreases-loop-directory g l = length l.directory
