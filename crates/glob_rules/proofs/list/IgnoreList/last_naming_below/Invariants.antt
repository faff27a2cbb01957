-- None of the rules from `left` on names the path.
use Rattle.std.proofs.Common.{◌≡◌, ◌≤◌}
use Rattle.glob_rules.specs.Deciding.{last_naming}
use Rattle.glob_rules.proofs.list.IgnoreList.last_naming_below.Given as goal

abbrev pub invariant-loop-left : goal.invariant-loop-left
invariant-loop-left g l = record {
  within : l.left ≤ l.end;
  same : last_naming l.self l.path l.is_directory l.end ≡ last_naming l.self l.path l.is_directory l.left;
}

abbrev pub decreases-loop-left : goal.decreases-loop-left
decreases-loop-left g l = l.left
