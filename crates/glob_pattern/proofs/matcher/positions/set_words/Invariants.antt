use Rattle.std.proofs.Common.{◌≡◌, ℕ, ◌*◌, ◌<◌, ◌≤◌, ◌↔◌, length, slice_index, IsTrue, map}
use Rattle.glob_pattern.specs.Matching.Splits.{Table}
use Rattle.glob_pattern.specs.Private.Prefixes.{PrefixSplits}
use Rattle.glob_pattern.specs.Private.Positions.{AreAlive, CanSet}
use Rattle.glob_pattern.proofs.matcher.positions.set_words.Given as goal

abbrev pub invariant-loop-n : goal.invariant-loop-n
invariant-loop-n g l = record {
  count : length l.alive ≡ length l.fn.alive;
  low : l.from ≤ l.n;
  high : l.n ≤ length l.alive;
  zeros : (i : ℕ) → l.n ≤ i → i < length l.alive → slice_index l.alive i ≡ 0;
  done : (table : Table) (k : ℕ) → CanSet table (map g.T.Shaped.shape l.tokens) l.end l.from k l.opens l.fn.alive
      → AreAlive table (map g.T.Shaped.shape l.tokens) l.end k 0 l.n l.alive;
  whole : (table : Table) (k : ℕ) → CanSet table (map g.T.Shaped.shape l.tokens) l.end l.from k l.opens l.fn.alive
      → 63 * l.n ≤ l.end → IsTrue l.whole ↔ PrefixSplits table (map g.T.Shaped.shape l.tokens) (63 * l.n) k;
}
