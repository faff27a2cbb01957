use Rattle.std.proofs.Common.{◌-◌, length}
use Rattle.glob_pattern.proofs.GrammarLemmas.Reading.{HasRead}
use Rattle.glob_pattern.proofs.grammar.read_text.Given as goal

-- the tokens of the units so far
abbrev pub invariant-loop-place : goal.invariant-loop-place
invariant-loop-place g l = HasRead l.text l.tokens.items l.place

abbrev pub decreases-loop-place : goal.decreases-loop-place
decreases-loop-place g l = length l.text - l.place
