-- The remaining letters set the same as all letters.
use Rattle.std.proofs.Common.{◌≡◌, drop}
use Rattle.globs.specs.Spelling.{with_letters}
use Rattle.globs.proofs.spelling.with_letters.Given as goal

abbrev pub invariant-loop-letter : goal.invariant-loop-letter
invariant-loop-letter l = with_letters l.name (drop l.letter-index l.letters) l.settings ≡ with_letters l.name l.letters l.fn.settings
