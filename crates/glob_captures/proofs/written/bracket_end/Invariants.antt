use Rattle.std.proofs.Common.{◌+◌}
use Rattle.glob_pattern.specs.Grammar.Units.{NoCloseBetween}
use Rattle.glob_captures.proofs.written.bracket_end.Given as goal

abbrev pub invariant-loop-end : goal.invariant-loop-end
invariant-loop-end l = NoCloseBetween l.text (l.place + l.skipped) l.end
