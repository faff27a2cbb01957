-- The characters so far are written.
use Rattle.std.proofs.Common.{◌≡◌, ◌++◌, take}
use Rattle.std.specs.List.{filter}
use Rattle.glob_rules.specs.StepTexts.{holds}
use Rattle.glob_rules.specs.declared.listing.TheConstants.{ORDER}
use Rattle.glob_rules.proofs.listing.write_held.Given as goal

abbrev pub invariant-loop-place : goal.invariant-loop-place
invariant-loop-place g l =
    l.glob.items ≡ l.initial.glob.items ++ filter (holds l.spans) (take l.place ORDER)
