-- The rest has the same below its dots as the whole text.
use Rattle.std.proofs.Common.{◌≡◌, length}
use denote.Shadow.{shadow}
use denote.Text.{Utf8}
use Rattle.globs.specs.Find.Leads.{below_dots}
use Rattle.globs.proofs.find.leads.below_dots.Given as goal

abbrev pub invariant-loop-after : goal.invariant-loop-after
invariant-loop-after l = shadow (Utf8 l.below) × (below_dots l.below ≡ below_dots l.text)

abbrev pub decreases-loop-after : goal.decreases-loop-after
decreases-loop-after l = length l.below
