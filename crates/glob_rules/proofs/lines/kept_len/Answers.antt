use Rattle.std.proofs.Common.{◌<◌, length, get_or, sym, ap, ◌∙◌, arith}
use Rattle.std.proofs.lemmas.List.Sums.{fold_more}
use Rattle.glob_rules.specs.Lines.{next_kept, none_kept}
use Rattle.glob_rules.proofs.lines.kept_len.Goals as goal

pub loop-place-preserved : goal.loop-place-preserved
loop-place-preserved c =
    let text = c.args.text.now in
    let place = c.loop-place.place in
    let inside : place < length text = omega arith in
    record {
      within = c.kept_after-kept.ensures.within;
      so_far = rw (c.kept_after-kept.ensures.kept, c.escapes-escaped.ensures)
          (sym (fold_more next_kept none_kept text place 0 inside ∙ ap (λ k. next_kept k (get_or text place 0))
          (sym c.loop-place.invariant.so_far)));
    }
