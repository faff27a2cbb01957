use Rattle.std.proofs.Common.{◌≡◌, ◌++◌, length}
use Rattle.glob_pattern.specs.Grammar.Brackets.{entries_of}
use Rattle.glob_pattern.proofs.token.bracket.read_entries.Given as goal

-- the entries so far and those of the rest are those of the content
abbrev pub invariant-loop-rest : goal.invariant-loop-rest
invariant-loop-rest g l = l.entries.items ++ entries_of l.rest ≡ entries_of l.content

abbrev pub decreases-loop-rest : goal.decreases-loop-rest
decreases-loop-rest g l = length l.rest
