-- The lexemes so far are before those of what is left.
use Rattle.std.proofs.Common.{◌≡◌, ◌++◌, drop}
use Rattle.glob_set.specs.Braces.{lexemes, lexemes_from}
use Rattle.glob_set.proofs.braces.lexemes.lexemes_in.Given as goal

abbrev pub invariant-loop-place : goal.invariant-loop-place
invariant-loop-place g l =
    l.found.items ++ lexemes_from l.text l.place l.end (drop l.place l.text) ≡ lexemes l.text
