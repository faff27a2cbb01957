use Rattle.std.proofs.Common.{◌≡◌, ◌-◌, length, map}
use Rattle.glob_pattern.specs.Private.Positions.{HasRun, IsLive}
use Rattle.glob_pattern.proofs.matcher.positions.run_words.Given as goal

abbrev pub invariant-loop-live : goal.invariant-loop-live
invariant-loop-live g l = record {
  count : length l.alive ≡ length l.fn.alive;
  run : HasRun (g.J.Judge.table l.fn.judge) (map g.T.Shaped.shape l.fn.tokens) l.fn.span.end (g.J.Judge.count l.fn.judge)
      (g.J.Judge.place l.judge) (g.J.Judge.count l.judge) l.alive;
  live : IsLive l.alive (length l.alive) l.live.low l.live.high;
  same : g.J.Judge.table l.judge ≡ g.J.Judge.table l.fn.judge;
}

abbrev pub decreases-loop-live : goal.decreases-loop-live
decreases-loop-live g l = (g.J.Judge.table l.fn.judge).characters - g.J.Judge.place l.judge
