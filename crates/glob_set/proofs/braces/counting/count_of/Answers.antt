use Rattle.std.proofs.Common.{[], reverse, sym, ap, subst, ◌∙◌, arith, slice_get}
use Rattle.std.proofs.lemmas.Result.{err_from_is_err_and}
use Rattle.glob_set.specs.Private.BraceCounts.{CountsSoFar}
use Rattle.glob_set.proofs.BraceCounting.{counts_start, counted_more, refused_at, unclosed_first, counted_all}
use Rattle.glob_set.proofs.braces.counting.count_of.Goals as goal

pub loop-place-init : goal.loop-place-init
loop-place-init g c = subst (λ os. CountsSoFar [] 1 (reverse os)) (sym c.new-opened.ensures.items) counts_start

pub returns-in_err-count-clause-refused : goal.returns-in_err-count-clause-refused
returns-in_err-count-clause-refused g c =
    let l = c.loop-place in
    let p = err_from_is_err_and c.from_residual.result c.from_residual.ensures.1 in
    rw (p.1, p.2) (refused_at c.args.lexemes.now l.place _ _ _ _ (omega arith) l.invariant c.in_err-count.ensures.refused)

pub loop-place-preserved : goal.loop-place-preserved
loop-place-preserved g c =
    let l = c.loop-place in
    counted_more c.args.lexemes.now l.place _ _ _ _ _ (omega arith) l.invariant c.in_ok-count.ensures.counted

pub returns-in-Some-clause-refused : goal.returns-in-Some-clause-refused
returns-in-Some-clause-refused g c =
    let l = c.loop-place in
    unclosed_first c.args.lexemes.now l.place l.count l.opened.items c.in-Some.first.now (omega arith) l.invariant
    (c.in-Some.ensures.value ∙ ap (λ z. slice_get z 0) c.deref.ensures.value)

pub returns-clause-counted : goal.returns-clause-counted
returns-clause-counted g c =
    let l = c.loop-place in
    counted_all c.args.lexemes.now l.place l.count l.opened.items (omega arith) l.invariant
    (c.in-None.ensures.value ∙ ap (λ z. slice_get z 0) c.deref.ensures.value)
