use Rattle.std.proofs.Common.{◌≡◌, ◌+◌, ◌-◌, ◌≤◌, ℕ, List, length, take, drop, sym, ap, subst, ◌∙◌, length-take, arith, vec_len}
use Rattle.std.proofs.lemmas.Bool.{false_from_ne_true}
use Rattle.std.proofs.lemmas.List.{take-take}
use Rattle.glob_lines.specs.LineFaults.{IsMemory, IsWrite}
use Rattle.glob_lines.specs.Lines.{HasNoEnd, Selected, Rewrites, RewritesSome, RewritesBytes, RewritesWhole}
use Rattle.glob_lines.proofs.LineLemmas.CopiedRecords.{AreCopied-more, AreCopied-last, AreCopied-whole, AreCopied-some}
use Rattle.glob_lines.proofs.LineLemmas.CopiedRecords.{AreCopied-some_more, AreCopied-bytes_more, IsBlock-last}
use Rattle.glob_lines.proofs.LineLemmas.CopiedRecords.{IsBlock-whole}
use Rattle.glob_lines.proofs.LineLemmas.MatchingLines.{selected_decided}
use Rattle.glob_lines.proofs.LineLemmas.Passing.{IsErrAnd-passed}
use Rattle.glob_lines.proofs.copying.rewrite_selected.Goals as goal

-- two views of a buffer have the same front
same_front : (view other buffer : List ℕ) (filled whole : ℕ) → view ≡ buffer → other ≡ buffer → whole ≤ length
    (take filled view) → take whole other ≡ take whole (take filled view)
same_front view other buffer filled whole is other_is fits =
    ap (take whole) (other_is ∙ sym is) ∙ sym (take-take whole filled view (omega (arith, fits, length-take filled view)))

pub returns-in_err-len-clause-read_fault : goal.returns-in_err-len-clause-read_fault
unfolding RewritesWhole
returns-in_err-len-clause-read_fault g c = λ selects write gives _.
    AreCopied-whole c.args.end _ _ _ _ _ _ _ _ _ (c.loop.invariant.copied selects write gives)
    c.in_err-len.ensures.kept

pub returns-in_err-len-clause-memory : goal.returns-in_err-len-clause-memory
unfolding RewritesSome
returns-in_err-len-clause-memory g c = λ selects write gives _.
    AreCopied-some c.args.end _ _ (selected_decided selects) _ _ _ _ _ _ (c.loop.invariant.copied selects write gives)

pub returns-in_err-last-clause-memory : goal.returns-in_err-last-clause-memory
unfolding RewritesSome
returns-in_err-last-clause-memory g c = λ selects write gives is.
    let read = c.in_ok-len.ensures in
    let empty = c.if-len-eq0.true in
    AreCopied-some_more c.args.end _ (Selected selects) (selected_decided selects) _ _ _ _ _ _ _ _ _ _
    (c.loop.invariant.copied selects write gives)
    (IsBlock-last c.args.end _ (Selected selects) _ _ c.loop.input.items c.read_piece.new.input.items c.loop.partial
    c.in_ok-len.len read.bytes empty (read.end empty)) _
    (ap (take c.loop.partial) c.deref.ensures.value ∙ read.front)
    (c.in_err-last.ensures.memory selects write (c.loop.invariant.keeps selects write gives)
    (IsErrAnd-passed _ _ IsMemory c.from_residual-in_err-last.ensures.1 is))

pub returns-in_err-last-clause-write_fault : goal.returns-in_err-last-clause-write_fault
unfolding RewritesBytes
returns-in_err-last-clause-write_fault g c = λ selects write gives is.
    let read = c.in_ok-len.ensures in
    let empty = c.if-len-eq0.true in
    AreCopied-bytes_more c.args.end _ (Selected selects) (selected_decided selects) _ _ _ _ _ _ _ _ _ _
    (c.loop.invariant.copied selects write gives)
    (IsBlock-last c.args.end _ (Selected selects) _ _ c.loop.input.items c.read_piece.new.input.items c.loop.partial
    c.in_ok-len.len read.bytes empty (read.end empty)) _
    (ap (take c.loop.partial) c.deref.ensures.value ∙ read.front)
    (c.in_err-last.ensures.write_fault selects write (c.loop.invariant.keeps selects write gives)
    (IsErrAnd-passed _ _ IsWrite c.from_residual-in_err-last.ensures.1 is))

pub returns-then-len-eq0-clause-records : goal.returns-then-len-eq0-clause-records
unfolding Rewrites
returns-then-len-eq0-clause-records g c = λ selects write gives.
    let read = c.in_ok-len.ensures in
    let empty = c.if-len-eq0.true in
    rw c.saturating_add.ensures (AreCopied-last c.args.end _ (Selected selects) _ _ _ _ _ _ _ _ _ _
    (c.loop.invariant.copied selects write gives)
    (IsBlock-last c.args.end _ (Selected selects) _ _ c.loop.input.items c.read_piece.new.input.items c.loop.partial
    c.in_ok-len.len read.bytes empty (read.end empty)) (read.end empty) _
    (ap (take c.loop.partial) c.deref.ensures.value ∙ read.front)
    (c.in_ok-last.ensures.records selects write (c.loop.invariant.keeps selects write gives)))

pub returns-in_err-copied-clause-memory : goal.returns-in_err-copied-clause-memory
unfolding RewritesSome
returns-in_err-copied-clause-memory g c = λ selects write gives is.
    let filled = c.loop.partial + c.in_ok-len.len in
    let whole = c.whole_len-whole in
    let read = c.in_ok-len.ensures in
    AreCopied-some_more c.args.end _ (Selected selects) (selected_decided selects) _ _ _ _ _ _ _ _ _ _
    (c.loop.invariant.copied selects write gives)
    (IsBlock-whole c.args.end _ (Selected selects) _ _ c.loop.input.items c.read_piece.new.input.items
    (take filled c.deref-in-loop.result.now) c.loop.partial c.in_ok-len.len whole.result
    read.front read.bytes (ap (take filled) c.deref-in-loop.ensures.value) whole.ensures.whole) _
    (same_front _ _ _ filled whole.result c.deref-in-loop.ensures.value c.deref-in-loop-2.ensures.value whole.ensures.bound)
    (c.in_err-copied.ensures.memory selects write (c.loop.invariant.keeps selects write gives)
    (IsErrAnd-passed _ _ IsMemory c.from_residual-in_err-copied.ensures.1 is))

pub returns-in_err-copied-clause-write_fault : goal.returns-in_err-copied-clause-write_fault
unfolding RewritesBytes
returns-in_err-copied-clause-write_fault g c = λ selects write gives is.
    let filled = c.loop.partial + c.in_ok-len.len in
    let whole = c.whole_len-whole in
    let read = c.in_ok-len.ensures in
    AreCopied-bytes_more c.args.end _ (Selected selects) (selected_decided selects) _ _ _ _ _ _ _ _ _ _
    (c.loop.invariant.copied selects write gives)
    (IsBlock-whole c.args.end _ (Selected selects) _ _ c.loop.input.items c.read_piece.new.input.items
    (take filled c.deref-in-loop.result.now) c.loop.partial c.in_ok-len.len whole.result
    read.front read.bytes (ap (take filled) c.deref-in-loop.ensures.value) whole.ensures.whole) _
    (same_front _ _ _ filled whole.result c.deref-in-loop.ensures.value c.deref-in-loop-2.ensures.value whole.ensures.bound)
    (c.in_err-copied.ensures.write_fault selects write (c.loop.invariant.keeps selects write gives)
    (IsErrAnd-passed _ _ IsWrite c.from_residual-in_err-copied.ensures.1 is))

pub loop-preserved : goal.loop-preserved
loop-preserved g c =
    let filled = c.loop.partial + c.in_ok-len.len in
    let whole = c.whole_len-whole in
    let read = c.in_ok-len.ensures in
    let value : take filled c.deref-in-loop.result.now ≡ take filled c.read_piece.new.input.items = ap
    (take filled) c.deref-in-loop.ensures.value in
    let left_is : filled - whole.result ≤ vec_len c.move_front.new.bytes = omega (arith, c.move_front.ensures.len, read.fits) in
    record {
      no_read_failed = false_from_ne_true _ read.failed.0;
      no_write_failed = false_from_ne_true _ c.in_ok-copied.ensures.failed.0;
      within = left_is;
      none = subst (HasNoEnd c.args.end) (sym (c.move_front.ensures.moved ∙ ap (drop whole.result) (sym value))) whole.ensures.rest;
      keeps = λ selects write gives.
          c.in_ok-copied.ensures.keeps selects write (c.loop.invariant.keeps selects write gives);
      copied = λ selects write gives.
          rw c.saturating_add-count.ensures (AreCopied-more c.args.end _ (Selected selects) _ _ _ _ _ _ _ _ _ _ _
          (c.loop.invariant.copied selects write gives)
          (IsBlock-whole c.args.end _ (Selected selects) _ _ c.loop.input.items c.read_piece.new.input.items
          (take filled c.deref-in-loop.result.now) c.loop.partial c.in_ok-len.len whole.result
          read.front read.bytes value whole.ensures.whole)
          whole.ensures.whole whole.ensures.rest _ (same_front _ _ _ filled whole.result c.deref-in-loop.ensures.value
          c.deref-in-loop-2.ensures.value whole.ensures.bound)
          (c.in_ok-copied.ensures.records selects write (c.loop.invariant.keeps selects write gives)) _
          (c.move_front.ensures.moved ∙ ap (drop whole.result) (sym value)));
    }

pub returns-clause-memory : goal.returns-clause-memory
unfolding RewritesSome
returns-clause-memory g c = λ selects write gives _.
    AreCopied-some c.args.end _ _ (selected_decided selects) _ _ _ _ _ _ (c.loop.invariant.copied selects write gives)

pub returns-in_err-last-clause-keeps : goal.returns-in_err-last-clause-keeps
returns-in_err-last-clause-keeps g c = λ selects write gives.
    c.in_err-last.ensures.keeps selects write (c.loop.invariant.keeps selects write gives)

pub returns-then-len-eq0-clause-keeps : goal.returns-then-len-eq0-clause-keeps
returns-then-len-eq0-clause-keeps g c = λ selects write gives.
    c.in_ok-last.ensures.keeps selects write (c.loop.invariant.keeps selects write gives)

pub returns-in_err-copied-clause-keeps : goal.returns-in_err-copied-clause-keeps
returns-in_err-copied-clause-keeps g c = λ selects write gives.
    c.in_err-copied.ensures.keeps selects write (c.loop.invariant.keeps selects write gives)
