use Rattle.std.proofs.Common.{◌≡◌, ◌-◌, ◌/◌, ◌^◌, set, map}
use Rattle.glob_pattern.specs.Private.Positions.{HasRun}
use Rattle.glob_pattern.proofs.matcher.positions.run_first.Given as goal

abbrev pub invariant-loop-first : goal.invariant-loop-first
invariant-loop-first g l = record {
  still : l.alive ≡ l.fn.alive;
  low : l.first / 2 ^ 63 ≡ 0;
  run : HasRun (g.J.Judge.table l.fn.judge) (map g.T.Shaped.shape l.fn.tokens) l.fn.span.end (g.J.Judge.count l.fn.judge)
      (g.J.Judge.place l.judge) (g.J.Judge.count l.judge) (set l.alive 0 l.first);
  same : g.J.Judge.table l.judge ≡ g.J.Judge.table l.fn.judge;
}

abbrev pub decreases-loop-first : goal.decreases-loop-first
decreases-loop-first g l = (g.J.Judge.table l.fn.judge).characters - g.J.Judge.place l.judge
