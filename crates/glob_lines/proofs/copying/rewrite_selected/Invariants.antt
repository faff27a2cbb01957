-- What was read up to the last end is copied, by whatever the rewrite gave at first and still gives. What is after it is
-- the front of `input`.
use Rattle.std.proofs.Common.{◌≡◌, ◌≤◌, ℕ, List, Bool, false, take, vec_len}
use Rattle.glob_lines.specs.Lines.{HasNoEnd, Selected}
use Rattle.glob_lines.proofs.LineLemmas.CopiedRecords.{AreCopied}
use Rattle.glob_lines.proofs.copying.rewrite_selected.Given as goal

abbrev pub invariant-loop : goal.invariant-loop
invariant-loop g l = record {
  no_read_failed : l.reader.failed ≡ false;
  no_write_failed : l.writer.failed ≡ false;
  within : l.partial ≤ vec_len l.input;
  none : HasNoEnd l.end (take l.partial l.input.items);
  keeps : (selects : List ℕ → Bool) (write : List ℕ → List ℕ) → g.S.Rewrite.gives l.initial.rewrite selects write
      → g.S.Rewrite.gives l.rewrite selects write;
  copied : (selects : List ℕ → Bool) (write : List ℕ → List ℕ) → g.S.Rewrite.gives l.initial.rewrite selects write
      → AreCopied l.end write (Selected selects)
      (g.R.Read.remaining l.initial.reader.inner)
      (g.R.Read.remaining l.reader.inner) (take l.partial l.input.items) (g.W.Write.contents l.initial.writer.inner)
      (g.W.Write.contents l.writer.inner) l.count;
}
