use Rattle.std.proofs.Common.{chars, ◌≡◌, ◌+◌, ◌-◌, ◌<◌, ℕ, [], length, get_or, IsTrue}
use Rattle.glob_pattern.specs.Computing.Tokens.{tokens_of}
use Rattle.glob_captures.specs.Private.Rests.{AreRests, grows, shape_at}
use Rattle.glob_captures.proofs.rests.rests_of.Given as goal

abbrev pub invariant-loop-done : goal.invariant-loop-done
invariant-loop-done g l = record {
  row : AreRests l.options (tokens_of (chars l.pattern)) l.text (l.span.last + 1 - l.done) 0 l.row.items;
  many : length l.rows.items ≡ l.done;
  rows : (i : ℕ) → i < l.done → IsTrue (grows (shape_at (tokens_of (chars l.pattern)) (l.span.last - i - 1)))
      → AreRests l.options (tokens_of (chars l.pattern)) l.text (l.span.last - i) 0 (get_or l.rows.items i []);
}
