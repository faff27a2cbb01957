-- No directory above the path that was asked about is ignored.
use Rattle.std.proofs.Common.{◌≡◌, [], take, drop}
use Rattle.glob_rules.specs.Deciding.{deciding_from}
use Rattle.glob_rules.proofs.list.IgnoreList.deciding.Given as goal

abbrev pub invariant-loop-place : goal.invariant-loop-place
invariant-loop-place g l =
    deciding_from l.self [] l.path l.is_directory
    ≡ deciding_from l.self (take l.place l.path) (drop l.place l.path) l.is_directory
