use Rattle.std.proofs.Common.{◌≡◌, take}
use Rattle.glob_page.specs.Answers.{written_numbers}
use Rattle.glob_page.proofs.written.token_numbers.Given as goal

abbrev pub invariant-loop-token : goal.invariant-loop-token
invariant-loop-token l = l.numbers.items ≡ written_numbers (take l.token-index l.token-items)
