use Rattle.std.proofs.Common.{true, false}
use Rattle.std.proofs.lemmas.List.Folds.{list_any_more}
use Rattle.glob_pattern.specs.Grammar.Brackets.{entry_holds}
use Rattle.glob_pattern.specs.declared.token.bracket.Entry.TheVariants.{Single}
use Rattle.glob_pattern.proofs.ClassLemmas.Folding.{held-ends}
use Rattle.glob_pattern.proofs.MaskLemmas.Putting.{IsWith-after}
use Rattle.glob_pattern.proofs.pattern.char_masks.row.list_all.Goals as goal

pub list_cases-requires-clause-apart : goal.list_cases-requires-clause-apart
list_cases-requires-clause-apart c =
    rw (c.ends-first.ensures.first, c.ends-first.ensures.last) (c.requires.apart c.loop-entry.entry-index (Single 0) c.loop-entry-test.true)

pub loop-entry-preserved : goal.loop-entry-preserved
loop-entry-preserved c =
    let entries = c.args.entries.now in
    let i = c.loop-entry.entry-index in
    let ends = c.ends-first.ensures in
    record {
      plain = λ d. rw (list_any_more (entry_holds true d) entries i (Single 0) c.loop-entry-test.true)
          (IsWith-after _ _ _ c.args.bit _ _ (c.loop-entry.invariant.plain d)
          (rw (ends.first, ends.last, held-ends true d _) at (c.list_cases.ensures.plain d)));
      folded = λ d. rw (list_any_more (entry_holds false d) entries i (Single 0) c.loop-entry-test.true)
          (IsWith-after _ _ _ c.args.bit _ _ (c.loop-entry.invariant.folded d)
          (rw (ends.first, ends.last, held-ends false d _) at (c.list_cases.ensures.folded d)));
    }
