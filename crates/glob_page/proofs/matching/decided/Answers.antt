use Rattle.std.proofs.Common.{ap, ◌∙◌}
use Rattle.glob_page.specs.Answers.{ArePieces, IsStop, numbers_of}
use Rattle.glob_page.proofs.matching.decided.Goals as goal

pub returns-in_ok-piece_numbers-in-Some-clause-pieces : goal.returns-in_ok-piece_numbers-in-Some-clause-pieces
unfolding ArePieces
returns-in_ok-piece_numbers-in-Some-clause-pieces c = λ _. (
  c.in-Some.pieces.items,
  rw c.in-Some.is at c.in_ok-pieces.ensures.pieces,
  c.in_ok-piece_numbers-in-Some.ensures ∙ ap numbers_of c.as_slice.ensures.value,
)

pub returns-in_ok-stop_numbers-in-None-clause-stop : goal.returns-in_ok-stop_numbers-in-None-clause-stop
unfolding IsStop
returns-in_ok-stop_numbers-in-None-clause-stop c = λ _. (
  c.in_ok-reached-in-None.reached.place,
  c.in_ok-reached-in-None.reached.waiting.items,
  c.in_ok-reached-in-None.ensures.reached,
  c.in_ok-reached-in-None.ensures.ascending,
  c.in_ok-stop_numbers-in-None.ensures,
)
