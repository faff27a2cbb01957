use Rattle.std.proofs.Common.{◌≡◌, ◌≢◌, ◌+◌, ◌-◌, ◌<◌, chars, [], ◌∷◌, ◌++◌, length, get_or, take, drop, IsTrue, sym}
use Rattle.std.proofs.Common.{ap, ◌∙◌, subst, ⊎_elim, arith}
use Rattle.std.proofs.lemmas.Bool.{cases_eq}
use Rattle.std.proofs.lemmas.Result.{err_from_is_err_and}
use Rattle.std.proofs.lemmas.List.{length_push, get_or_append_left, get_or_at}
use Rattle.glob_pattern.specs.Computing.Tokens.{tokens_of}
use Rattle.glob_captures.specs.Private.Rests.{AreRests, grows, shape_at}
use Rattle.glob_captures.proofs.FrontLemmas.{written_back}
use Rattle.glob_captures.proofs.rests.rests_of.Goals as goal

pub add_token-requires-clause-token : goal.add_token-requires-clause-token
add_token-requires-clause-token g c =
    let tokens = tokens_of (chars c.args.pattern.now) in
    let below : c.args.span.last < length tokens = c.requires.span.inside (omega (arith, c.requires.span.order, c.requires.span.within)) in
    omega arith

pub loop-done-preserved : goal.loop-done-preserved
loop-done-preserved g c =
    let o = c.args.options in
    let tokens = tokens_of (chars c.args.pattern.now) in
    let text = c.args.text.now in
    let last = c.args.span.last in
    let n = c.loop-done.done in
    let inv = c.loop-done.invariant in
    let rows = c.loop-done.rows.items in
    let old = c.loop-done.row in
    let new = c.add_token.new.row in
    let kept = c.in_ok-kept.kept in
    let many : length rows ≡ n = inv.many in
    let len : old.len ≡ length old.items = omega (arith, c.as_mut_slice.ensures.len, ap length c.as_mut_slice.ensures.value) in
    let whole : take old.len (new ++ drop (length new) old.items) ≡ new = written_back old.items new old.len
    (c.add_token.ensures.many ∙ sym inv.row.many) len in
    let read : c.as_slice.result.now ≡ new = c.as_slice.ensures.value ∙ whole in
    let e : c.push.new.self.items ≡ rows ++ kept ∷ [] = c.in_ok-push.ensures.items in
    let at : last - n ≡ last + 1 - (n + 1) = omega arith in
    record {
      row = rw whole (subst (λ m. AreRests o tokens text m 0 new) at c.add_token.ensures);
      many = ap length e ∙ length_push rows kept ∙ ap (λ i. i + 1) many;
      rows = λ i below more. rw e
          (⊎_elim
          (λ (here : i ≡ n).
          let grown : IsTrue (grows (shape_at tokens (last - n - 1))) = subst
          (λ j. IsTrue (grows (shape_at tokens (last - j - 1)))) here more in
          let row : get_or (rows ++ kept ∷ []) n [] ≡ new = get_or_at rows kept [] [] n many ∙ c.in_ok-kept.ensures grown ∙ read in
          subst (λ j. AreRests o tokens text (last - j) 0 (get_or (rows ++ kept ∷ []) j [])) (sym here) (rw row c.add_token.ensures))
          (λ (other : i ≢ n). let few : i < length rows = omega arith in rw (get_or_append_left rows (kept ∷ []) [] i
          few) (inv.rows i (omega arith) more))
          (cases_eq i n));
    }

pub returns : goal.returns
returns g c =
    let inv = c.loop-done.invariant in
    record {
      many = omega (arith, inv.many);
      row = λ i below more. inv.rows i (omega arith) more;
    }

pub loop-done-init : goal.loop-done-init
loop-done-init g c =
    let first : c.args.span.last + 1 ≡ c.args.span.last + 1 - 0 = omega arith in
    record {
      row = subst (λ m. AreRests c.args.options (tokens_of (chars c.args.pattern.now)) c.args.text.now m 0
          c.in_ok-row.row.items) first c.in_ok-row.ensures;
      many = ap length c.in_ok-rows.ensures.items;
      rows = λ i below. absurd (omega (arith, below));
    }

pub returns-in_err-rows : goal.returns-in_err-rows
returns-in_err-rows g c = rw (err_from_is_err_and c.from_residual.result c.from_residual.ensures.1).1 tt

pub returns-in_err-row : goal.returns-in_err-row
returns-in_err-row g c = rw (err_from_is_err_and c.from_residual-in_err-row.result c.from_residual-in_err-row.ensures.1).1 tt

pub returns-in_err-kept : goal.returns-in_err-kept
returns-in_err-kept g c = rw (err_from_is_err_and c.from_residual-in_err-kept.result c.from_residual-in_err-kept.ensures.1).1 tt

pub returns-in_err-push : goal.returns-in_err-push
returns-in_err-push g c = rw (err_from_is_err_and c.from_residual-in_err-push.result c.from_residual-in_err-push.ensures.1).1 tt

pub row_after-requires : goal.row_after-requires
row_after-requires g c =
    let tokens = tokens_of (chars c.args.pattern.now) in
    let below : c.args.span.last < length tokens = c.requires.span.inside (omega (arith, c.requires.span.order, c.requires.span.within)) in
    omega arith

pub add_token-requires-clause-next : goal.add_token-requires-clause-next
add_token-requires-clause-next g c =
    let next : c.args.span.last + 1 - c.loop-done.done ≡ c.args.span.last - c.loop-done.done + 1 = omega arith in
    rw c.as_mut_slice.ensures.value
    (subst (λ m. AreRests c.args.options (tokens_of (chars c.args.pattern.now)) c.args.text.now m 0
    c.loop-done.row.items) next c.loop-done.invariant.row)
