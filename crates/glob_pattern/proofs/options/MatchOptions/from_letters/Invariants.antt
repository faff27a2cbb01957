use Rattle.std.proofs.Common.{◌≡◌, drop}
use Rattle.glob_pattern.specs.Matching.Options.{new_options, with_letters}
use Rattle.glob_pattern.proofs.options.MatchOptions.from_letters.Given as goal

-- the letters that are left, added to the options so far, give the result
abbrev pub invariant-loop-letter : goal.invariant-loop-letter
invariant-loop-letter l = with_letters (drop l.letter-index l.letters) l.options ≡ with_letters l.letters new_options
