-- The records before `rest` are filtered, by whatever the rewrite gave at first and still gives.
use Rattle.std.proofs.Common.{◌≡◌, ℕ, List, Bool, false, length}
use Rattle.glob_lines.specs.Lines.{Selected}
use Rattle.glob_lines.proofs.LineLemmas.FilteredLines.{AreFiltered}
use Rattle.glob_lines.proofs.lines.write_records.Given as goal

abbrev pub invariant-loop-rest : goal.invariant-loop-rest
invariant-loop-rest g l = record {
  none_failed : l.writer.failed ≡ false;
  keeps : (selects : List ℕ → Bool) (write : List ℕ → List ℕ) → g.S.Rewrite.gives l.initial.rewrite selects write
      → g.S.Rewrite.gives l.rewrite selects write;
  filtered : (selects : List ℕ → Bool) (write : List ℕ → List ℕ) → g.S.Rewrite.gives l.initial.rewrite selects write
      → AreFiltered l.end write (Selected selects) l.input l.rest l.output.items
      (g.W.Write.contents l.initial.writer.inner) (g.W.Write.contents l.writer.inner) l.count;
}

abbrev pub decreases-loop-rest : goal.decreases-loop-rest
decreases-loop-rest g l = length l.rest
