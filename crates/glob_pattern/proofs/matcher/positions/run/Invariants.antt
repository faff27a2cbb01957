use Rattle.std.proofs.Common.{◌≡◌, ◌-◌, [], ◌∷◌, map}
use Rattle.glob_pattern.specs.Private.Positions.{HasRun}
use Rattle.glob_pattern.proofs.matcher.positions.run.Given as goal

abbrev pub invariant-loop-alive : goal.invariant-loop-alive
invariant-loop-alive g l = record {
  run : HasRun (g.J.Judge.table l.fn.judge) (map g.T.Shaped.shape l.fn.tokens) l.fn.span.end (g.J.Judge.count l.fn.judge)
      (g.J.Judge.place l.judge) (g.J.Judge.count l.judge) (l.alive ∷ []);
  same : g.J.Judge.table l.judge ≡ g.J.Judge.table l.fn.judge;
}

abbrev pub decreases-loop-alive : goal.decreases-loop-alive
decreases-loop-alive g l = (g.J.Judge.table l.fn.judge).characters - g.J.Judge.place l.judge
