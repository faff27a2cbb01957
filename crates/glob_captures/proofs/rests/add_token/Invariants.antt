use Rattle.std.proofs.Common.{chars, ◌+◌, ◌-◌, ◌<◌, ◌↔◌, ℕ, false, length, get_or, IsTrue}
use Rattle.glob_pattern.specs.Computing.Tokens.{tokens_of}
use Rattle.glob_captures.specs.Private.Rests.{TakesRest, TakesMore, AreRests}
use Rattle.glob_captures.proofs.rests.add_token.Given as goal

abbrev pub invariant-loop-done : goal.invariant-loop-done
invariant-loop-done g l = record {
  rests : AreRests l.options (tokens_of (chars l.pattern)) l.text l.token (length l.text - l.done) l.row;
  old : (k : ℕ) → k < length l.text - l.done → IsTrue (get_or l.row k false) ↔ TakesRest l.options
      (tokens_of (chars l.pattern)) l.text (l.token + 1) k;
  rest : IsTrue l.rest ↔ TakesRest l.options (tokens_of (chars l.pattern)) l.text (l.token + 1) (length l.text - l.done);
  more : IsTrue l.more ↔ TakesMore l.options (tokens_of (chars l.pattern)) l.text l.token (length l.text - l.done);
}
