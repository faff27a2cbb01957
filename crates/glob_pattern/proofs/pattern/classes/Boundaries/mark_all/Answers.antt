use Rattle.std.proofs.Common.{subst}
use Rattle.std.specs.List.{All}
use lib.Seq.{take_all}
use Rattle.std.proofs.lemmas.List.Elements.{All-more}
use Rattle.glob_pattern.specs.Private.Classes.{HasInterval, EntryIntervals}
use Rattle.glob_pattern.specs.declared.token.bracket.Entry.TheVariants.{Single}
use Rattle.glob_pattern.proofs.ClassLemmas.Intervals.{Grows-trans, HasInterval-grows, Entries-map}
use Rattle.glob_pattern.proofs.pattern.classes.Boundaries.mark_all.Goals as goal

pub loop-entry-preserved : goal.loop-entry-preserved
loop-entry-preserved g c =
    let i = c.loop-entry.invariant in
    let entries = c.args.entries.now in
    let mark = c.in_ok-mark_cases.ensures in
    record {
      marked = All-more (EntryIntervals (HasInterval c.mark_cases.new.self)) entries c.loop-entry.entry-index
          (Single 0) c.loop-entry-test.true
          (Entries-map _ _ (λ x y le. HasInterval-grows _ _ mark.grows x y) _ i.marked)
          (rw (c.ends-first.ensures.first, c.ends-first.ensures.last) at mark.marked);
      grows = Grows-trans _ _ _ i.grows mark.grows;
    }

pub returns-clause-marked : goal.returns-clause-marked
returns-clause-marked g c = subst (All (EntryIntervals (HasInterval c.loop-entry.self)))
    (take_all _ _ c.loop-entry-test.false) c.loop-entry.invariant.marked
