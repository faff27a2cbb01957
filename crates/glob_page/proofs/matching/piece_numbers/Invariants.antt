use Rattle.std.proofs.Common.{◌≡◌, take}
use Rattle.glob_page.specs.Answers.{numbers_of}
use Rattle.glob_page.proofs.matching.piece_numbers.Given as goal

abbrev pub invariant-loop-piece : goal.invariant-loop-piece
invariant-loop-piece l = l.numbers.items ≡ numbers_of (take l.piece-index l.pieces)
