use Rattle.std.proofs.Common.{◌≡◌, ℕ, ◌-◌, ◌*◌, ◌<◌, ◌≤◌, ◌↔◌, length, min, slice_index, IsTrue, map}
use Rattle.glob_pattern.specs.Private.Prefixes.{PrefixSplits}
use Rattle.glob_pattern.specs.Private.Positions.{AreAlive, IsLive, WereAsked}
use Rattle.glob_pattern.proofs.matcher.positions.step_words.Given as goal

abbrev pub invariant-loop-n : goal.invariant-loop-n
invariant-loop-n g l = record {
  count : length l.alive ≡ length l.fn.alive;
  done : AreAlive (g.J.Judge.table l.fn.judge) (map g.T.Shaped.shape l.tokens) l.end (g.J.Judge.place l.fn.judge) 0 l.n l.alive;
  rest : AreAlive (g.J.Judge.table l.fn.judge) (map g.T.Shaped.shape l.tokens) l.end (g.J.Judge.place l.fn.judge - 1) l.n
      (length l.alive) l.alive;
  zeros : (i : ℕ) → l.n ≤ i → i < length l.alive → l.live.high ≤ i → slice_index l.alive i ≡ 0;
  next : IsLive l.alive l.n l.next.low l.next.high;
  whole : 63 * l.n ≤ l.end
      → IsTrue l.whole ↔ PrefixSplits (g.J.Judge.table l.fn.judge) (map g.T.Shaped.shape l.tokens) (63 * l.n) (g.J.Judge.place l.fn.judge);
  asked : WereAsked (g.J.Judge.table l.fn.judge) (map g.T.Shaped.shape l.tokens) 0 (min (63 * l.n) l.end) (g.J.Judge.place l.fn.judge)
      (g.J.Judge.count l.fn.judge) (g.J.Judge.count l.judge);
  place : g.J.Judge.place l.judge ≡ g.J.Judge.place l.fn.judge;
  same : g.J.Judge.table l.judge ≡ g.J.Judge.table l.fn.judge;
}
