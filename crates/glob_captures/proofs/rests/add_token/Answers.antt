use Rattle.std.proofs.Common.{◌≡◌, ◌+◌, ◌-◌, ◌↔◌, ℕ, chars, false, length, get_or, set, IsTrue, subst, refl, arith}
use Rattle.std.proofs.lemmas.List.{get_or-set_other}
use Rattle.glob_text.specs.Text.{opens}
use Rattle.glob_pattern.specs.Computing.Tokens.{tokens_of}
use Rattle.glob_captures.specs.Private.Rests.{TakesRest, TakesMore, AreRests}
use Rattle.glob_captures.proofs.RestLemmas.Rows.{TakesMore-step, TakesRest-step, TakesMore-at_end, AreRests-start, AreRests-more}
use Rattle.glob_captures.proofs.rests.add_token.Goals as goal

pub loop-done-init : goal.loop-done-init
loop-done-init g c =
    let o = c.args.options in
    let tokens = tokens_of (chars c.args.pattern.now) in
    let text = c.args.text.now in
    let n = c.args.token in
    let l : ℕ = length text in
    let row = c.args.row.now in
    let at : l ≡ l - 0 = omega arith in
    record {
      rests =
          subst (λ from. AreRests o tokens text n from (set row l c.is_taken.result)) at
          (rw c.is_taken.ensures
          (AreRests-start o tokens text n c.form_of-form.result row c.requires.token c.form_of-form.ensures c.requires.next));
      old = λ k below.
          rw (get_or-set_other row l k c.is_taken.result false (omega arith)) (c.requires.next.rest k (omega arith) (omega arith));
      rest = subst (λ k. IsTrue (get_or row l false) ↔ TakesRest o tokens text (n + 1) k) at (c.requires.next.rest l
          (omega arith) (omega arith));
      more = subst (λ k. IsTrue false ↔ TakesMore o tokens text n k) at (TakesMore-at_end o tokens text n);
    }

pub loop-done-preserved : goal.loop-done-preserved
loop-done-preserved g c =
    let o = c.args.options in
    let tokens = tokens_of (chars c.args.pattern.now) in
    let text = c.args.text.now in
    let n = c.args.token in
    let inv = c.loop-done.invariant in
    let form = c.form_of-form.result in
    let row = c.loop-done.row in
    let k : ℕ = length text - 1 - c.loop-done.done in
    let before : length text - c.loop-done.done ≡ k + 1 = omega arith in
    let here : k ≡ length text - (c.loop-done.done + 1) = omega arith in
    let more : IsTrue c.takes_if-more.result ↔ TakesMore o tokens text n k =
    rw (c.takes_if-more.ensures, c.may_take-may.ensures)
    (TakesMore-step o tokens text n k c.loop-done.rest c.loop-done.more (opens text (k + 1)) _ form c.form_of-form.ensures
    (subst (λ i. IsTrue c.loop-done.rest ↔ TakesRest o tokens text (n + 1) i) before inv.rest)
    (subst (λ i. IsTrue c.loop-done.more ↔ TakesMore o tokens text n i) before inv.more) refl refl) in
    let was : IsTrue (get_or row k false) ↔ TakesRest o tokens text (n + 1) k = inv.old k (omega arith) in
    let rest : IsTrue c.is_taken-in-loop-done.result ↔ TakesRest o tokens text n k =
    rw c.is_taken-in-loop-done.ensures
    (TakesRest-step o tokens text n k (get_or row k false) c.takes_if-more.result form c.requires.token
    c.form_of-form.ensures was more) in
    record {
      rests = subst (λ from. AreRests o tokens text n from (set row k c.is_taken-in-loop-done.result)) here
          (AreRests-more o tokens text n k row c.is_taken-in-loop-done.result (omega arith)
          (subst (λ from. AreRests o tokens text n from row) before inv.rests) rest);
      old = λ i below. rw (get_or-set_other row k i c.is_taken-in-loop-done.result false (omega arith)) (inv.old i (omega arith));
      rest = subst (λ i. IsTrue (get_or row k false) ↔ TakesRest o tokens text (n + 1) i) here was;
      more = subst (λ i. IsTrue c.takes_if-more.result ↔ TakesMore o tokens text n i) here more;
    }
