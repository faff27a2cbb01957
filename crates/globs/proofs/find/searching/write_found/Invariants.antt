-- What was given so far was written, or waits.
use Rattle.std.proofs.Common.{◌≡◌, Bool, Some}
use Rattle.glob_text.specs.Text.{Text}
use Rattle.globs.specs.Find.Kinds.{sieved}
use Rattle.globs.proofs.SearchedLemmas.{Searched}
use Rattle.globs.proofs.find.searching.write_found.Given as goal

abbrev pub invariant-loop : goal.invariant-loop
invariant-loop g l = record {
  lead : l.lines.lead.now ≡ l.lead;
  end : l.lines.end ≡ l.end;
  searched : (keeps : Text → Bool) → sieved g.F.PathKinds.kinds l.sieve ≡ Some keeps
      → Searched keeps l.lead l.end g.T.Tree.tells g.X.RuleTexts.texts l.fn.tree l.fn.texts l.fn.search
      (g.W.Write.contents l.initial.output) l.tree l.texts l.search l.findings
      (g.W.Write.contents l.output) l.lines.waiting.items;
}
