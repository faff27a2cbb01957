use Rattle.std.proofs.Common.{chars, ◌+◌, ◌<◌, ◌≤◌, ◌↔◌, false, length, get_or, IsTrue, refl, ◌∙◌, arith}
use Rattle.std.proofs.lemmas.List.{length-set}
use Rattle.glob_pattern.specs.Computing.Tokens.{tokens_of}
use Rattle.glob_captures.specs.Reaching.{TakeFront, Waits}
use Rattle.glob_captures.proofs.FrontLemmas.{Waits-step, TakeFront-step, Took-step, Took-start, row_more, row_rest}
use Rattle.glob_captures.proofs.reaching.step.Goals as goal
use Rattle.glob_captures.proofs.reaching.step.Goals.{then-place-text, else-place-text}

pub loop-place-init : goal.loop-place-init
loop-place-init g c = record {
  many = c.requires.fronts.many;
  room = c.requires.room;
  ends = λ k below. absurd (omega arith);
  fronts = λ k from to. c.requires.fronts.front k to;
  waits = λ k below. absurd (omega arith);
  took = λ within. Took-start c.args.options (tokens_of (chars c.args.pattern.now)) c.args.text.now c.args.token;
}

pub loop-place-preserved : goal.loop-place-preserved
loop-place-preserved g c =
    let o = c.args.options in
    let tokens = tokens_of (chars c.args.pattern.now) in
    let text = c.args.text.now in
    let n = c.args.token in
    let i = c.loop-place.place in
    let form = c.form_of-form.result in
    let inv = c.loop-place.invariant in
    let inside : i < length c.loop-place.whole = omega (arith, c.loop-place.auto.whole) in
    let within : i ≤ length text = omega (arith, inv.many) in
    let was = inv.fronts i (omega arith) within in
    let took = inv.took within in
    let waits : IsTrue c.may_wait-waits.result ↔ Waits o tokens text n i = rw c.may_wait-waits.ensures
    (Waits-step o tokens text n i form c.requires.token c.form_of-form.ensures (get_or c.loop-place.whole i false)
    c.loop-place.took was took) in
    let ends : IsTrue c.may_end.result ↔ TakeFront o tokens text (n + 1) i = rw c.may_end.ensures
    (TakeFront-step o tokens text n i form c.requires.token c.form_of-form.ensures (get_or c.loop-place.whole i false)
    c.loop-place.took was took) in
    record {
      many = length-set c.loop-place.whole i c.may_end.result ∙ inv.many;
      room = length-set c.loop-place.alive i c.may_wait-waits.result ∙ inv.room;
      ends = row_more (TakeFront o tokens text (n + 1)) c.loop-place.whole i c.may_end.result inside inv.ends ends;
      fronts = row_rest (TakeFront o tokens text n) c.loop-place.whole i (length text) c.may_end.result inv.fronts;
      waits = row_more (Waits o tokens text n) c.loop-place.alive i c.may_wait-waits.result (omega (arith, inv.room)) inv.waits waits;
      took = λ more.
          elim c.if-place-text.branch [
            | then-place-text w ↦ rw (w.took-is, w.takes_if-took.ensures) (Took-step o tokens text n i
                c.may_wait-waits.result _ waits refl)
            | else-place-text w ↦ absurd (omega (arith, w.if-place-text.false))
          ];
    }
