-- The lines so far are read.
use Rattle.std.proofs.Common.{◌≡◌, length, take}
use Rattle.std.specs.List.{fold}
use Rattle.glob_rules.specs.Lists.{lines_of, none_read, read_line}
use Rattle.glob_rules.proofs.rules.Rules.read.Given as goal

abbrev pub invariant-loop-line : goal.invariant-loop-line
invariant-loop-line g l = l.rules ≡ fold read_line none_read (take (length l.yielded) (lines_of l.text))
