use Rattle.std.proofs.Common.{◌≡◌, ℕ, ◌*◌, ◌<◌, length, slice_index_or, map}
use Rattle.glob_pattern.specs.Private.Positions.{IsShapeWord}
use Rattle.glob_pattern.specs.declared.matcher.shape_word.ShapeWord.{ShapeWord}
use Rattle.glob_pattern.proofs.matcher.shape_word.shape_words.Given as goal

abbrev pub invariant-loop-n : goal.invariant-loop-n
invariant-loop-n g l = record {
  count : length l.words.items ≡ l.n;
  word : (i : ℕ) (d : ShapeWord) → i < l.n → IsShapeWord (map g.T.Shaped.shape l.tokens) l.end (63 * i) (slice_index_or l.words.items i d);
}
