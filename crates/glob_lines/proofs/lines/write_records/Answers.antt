use Rattle.std.proofs.Common.{sym, ◌∙◌}
use Rattle.std.proofs.lemmas.Bool.{false≢true, false_from_ne_true}
use Rattle.std.proofs.KnownBytes.{Keeps-refl}
use Rattle.glob_lines.proofs.LineLemmas.FilteredLines.{AreFiltered-none, AreFiltered-whole, AreFiltered-cut}
use Rattle.glob_lines.proofs.LineLemmas.FilteredLines.{AreFiltered-cut_more, AreFiltered-kept, AreFiltered-passed}
use Rattle.glob_lines.proofs.LineLemmas.FilteredLines.{something_added, nothing_added}
use Rattle.glob_lines.proofs.LineLemmas.Passing.{IsErrAnd-passed, OnErr-at_err}
use Rattle.glob_lines.specs.LineFaults.{IsMemory, IsWrite}
use Rattle.glob_lines.proofs.lines.write_records.Goals as goal

pub loop-rest-init : goal.loop-rest-init
loop-rest-init g c = record {
  none_failed = c.requires;
  keeps = λ selects write gives. gives;
  filtered = λ selects write gives. rw c.clear.ensures.items (AreFiltered-none c.args.end _ _ _ _);
}

pub returns-in_err-rewrite-clause-keeps : goal.returns-in_err-rewrite-clause-keeps
returns-in_err-rewrite-clause-keeps g c = λ selects write gives.
    c.in_err-rewrite.ensures.keeps selects write (c.loop-rest.invariant.keeps selects write gives)

pub returns-in_err-rewrite-clause-memory : goal.returns-in_err-rewrite-clause-memory
returns-in_err-rewrite-clause-memory g c = λ selects write gives _ kept all. AreFiltered-whole c.args.end _ _ _ _ _ _ _ _ _
    (c.loop-rest.invariant.filtered selects write gives) (Keeps-refl _) kept all

pub returns-in_err-write_long-clause-keeps : goal.returns-in_err-write_long-clause-keeps
returns-in_err-write_long-clause-keeps g c = λ selects write gives.
    c.in_ok-rewrite.ensures.keeps selects write (c.loop-rest.invariant.keeps selects write gives)

pub returns-in_err-write_long-clause-memory : goal.returns-in_err-write_long-clause-memory
returns-in_err-write_long-clause-memory g c = λ selects write gives is.
    absurd (c.in_err-write_long.ensures.no_memory (IsErrAnd-passed _ _ IsMemory c.from_residual-in_err-write_long.ensures.1 is))

pub returns-in_err-write_long-clause-write_fault : goal.returns-in_err-write_long-clause-write_fault
returns-in_err-write_long-clause-write_fault g c = λ selects write gives is kept all.
    let (n, cut) = c.in_err-write_long.ensures.write_fault (IsErrAnd-passed _ _ IsWrite c.from_residual-in_err-write_long.ensures.1 is) in
    let now = c.loop-rest.invariant.keeps selects write gives in
    AreFiltered-cut_more c.args.end _ _ _ _ c.split_record.result.1.now _ _ _ _ _ _ _ n
    (c.loop-rest.invariant.filtered selects write gives)
    c.split_record.ensures.records (sym (c.in_ok-rewrite.ensures.answer selects write now) ∙ c.if-branch.true)
    (something_added _ _ _ _ (c.in_ok-rewrite.ensures.bytes selects write now) c.if-branch.true) cut kept all

pub loop-rest-preserved-in_ok-write_long : goal.loop-rest-preserved-in_ok-write_long
loop-rest-preserved-in_ok-write_long g c =
    record {
      none_failed = false_from_ne_true _ c.in_ok-write_long.ensures.failed.0;
      keeps = λ selects write gives.
          c.in_ok-rewrite.ensures.keeps selects write (c.loop-rest.invariant.keeps selects write gives);
      filtered = λ selects write gives.
          let now = c.loop-rest.invariant.keeps selects write gives in
          rw c.saturating_add-count.ensures (AreFiltered-kept c.args.end _ _ _ _ _ _ _ _ _ _ _ _ _
          (c.loop-rest.invariant.filtered selects write gives) c.split_record.ensures.records
          (sym (c.in_ok-rewrite.ensures.answer selects write now) ∙ c.if-branch.true)
          (something_added _ _ _ _ (c.in_ok-rewrite.ensures.bytes selects write now) c.if-branch.true)
          c.in_ok-write_long.ensures.ok);
    }

pub loop-rest-preserved : goal.loop-rest-preserved
loop-rest-preserved g c =
    record {
      none_failed = c.loop-rest.invariant.none_failed;
      keeps = λ selects write gives.
          c.in_ok-rewrite.ensures.keeps selects write (c.loop-rest.invariant.keeps selects write gives);
      filtered = λ selects write gives.
          let now = c.loop-rest.invariant.keeps selects write gives in
          AreFiltered-passed c.args.end _ _ _ _ _ _ _ _ _ _ _
          (c.loop-rest.invariant.filtered selects write gives) c.split_record.ensures.records
          (λ holds. false≢true (sym c.if-branch.false ∙ c.in_ok-rewrite.ensures.answer selects write now ∙ holds))
          (nothing_added _ _ _ _ (c.in_ok-rewrite.ensures.bytes selects write now) c.if-branch.false);
    }

pub returns-in_err-map_err-clause-write_fault : goal.returns-in_err-map_err-clause-write_fault
returns-in_err-map_err-clause-write_fault g c = λ selects write gives is kept all.
    let (n, cut) = OnErr-at_err c.write_all.result c.in_err-map_err.ensures.variant c.write_all.ensures.err in
    AreFiltered-cut c.args.end _ _ _ _ _ _ _ _ _ _ n (c.loop-rest.invariant.filtered selects write gives)
    c.deref.ensures.value cut kept all
