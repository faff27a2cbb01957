use Rattle.std.proofs.Common.{◌≡◌, ◌≢◌, ◌*◌, ◌+◌, ◌-◌, ◌≤◌, length, drop, sym, ap, ◌∙◌, ⊎_elim, arith}
use Rattle.std.proofs.lemmas.Bool.{cases_eq}
use Rattle.std.proofs.lemmas.List.{length-take, length-drop}
use Rattle.glob_pattern.specs.Private.Classes.{partition_of, columns_of}
use Rattle.glob_pattern.specs.Private.CharMasks.{mask_at, half_of}
use Rattle.glob_pattern.proofs.ClassLemmas.Rows.{row-within, part-zero, half-few}
use Rattle.glob_pattern.proofs.MaskLemmas.Words.{IsRow-moved, placed, before, length-written, past}
use Rattle.glob_pattern.proofs.pattern.char_masks.fill_rows.Goals as goal

pub overflow_mul-long : goal.overflow_mul-long
overflow_mul-long g c =
    let within = row-within c.loop-word.word c.args.words (2 * c.count-columns.result) c.loop-word-test.true in
    let long = ap (λ k. c.args.words * (2 * k)) c.count-columns.ensures ∙ sym c.requires.long in
    omega (arith, within, long, c.loop-word.invariant.long)

pub overflow_mul-at : goal.overflow_mul-at
overflow_mul-at g c =
    let within = row-within c.loop-word.word c.args.words (2 * c.count-columns.result) c.loop-word-test.true in
    let long = ap (λ k. c.args.words * (2 * k)) c.count-columns.ensures ∙ sym c.requires.long in
    omega (arith, within, long, c.loop-word.invariant.long)

pub overflow_add-rows : goal.overflow_add-rows
overflow_add-rows g c =
    let within = row-within c.loop-word.word c.args.words (2 * c.count-columns.result) c.loop-word-test.true in
    let long = ap (λ k. c.args.words * (2 * k)) c.count-columns.ensures ∙ sym c.requires.long in
    omega (arith, within, long, c.loop-word.invariant.long)

pub offset_bounds-masks-at : goal.offset_bounds-masks-at
offset_bounds-masks-at g c =
    let within = row-within c.loop-word.word c.args.words (2 * c.count-columns.result) c.loop-word-test.true in
    let long = ap (λ k. c.args.words * (2 * k)) c.count-columns.ensures ∙ sym c.requires.long in
    omega (arith, within, long, c.loop-word.invariant.long)

pub slice_bounds-rows-end : goal.slice_bounds-rows-end
slice_bounds-rows-end g c =
    let within = row-within c.loop-word.word c.args.words (2 * c.count-columns.result) c.loop-word-test.true in
    let long = ap (λ k. c.args.words * (2 * k)) c.count-columns.ensures ∙ sym c.requires.long in
    omega (arith, within, long, c.loop-word.invariant.long)

pub fill_word-requires-clause-empty : goal.fill_word-requires-clause-empty
fill_word-requires-clause-empty g c = rw c.count-columns.ensures (part-zero _ _ _ c.loop-word.invariant.left)

pub loop-word-preserved : goal.loop-word-preserved
loop-word-preserved g c =
    let tokens = c.args.tokens.now in
    let p = partition_of c.args.classes in
    let is = c.requires.partition in
    let columns = columns_of p in
    let word = c.loop-word.word in
    let at = word * (2 * columns) in
    let i = c.loop-word.invariant in
    let old = c.loop-word.masks in
    let new = c.fill_word.new.rows in
    let whole : word * (2 * c.count-columns.result) + 2 * c.count-columns.result - word * (2 * c.count-columns.result)
    ≡ 2 * c.count-columns.result = omega arith in
    let within : at + 2 * columns ≤ length old = omega (
      arith,
      row-within word c.args.words (2 * columns) c.loop-word-test.true,
      c.requires.long,
      i.long,
    ) in
    let cut = length-take (2 * columns) (drop at old) in
    let rest = length-drop at old in
    let kept = rw (whole, c.count-columns.ensures) at c.fill_word.ensures.long in
    let long : length new ≡ 2 * columns = omega (arith, kept, cut, rest, within) in
    rw (whole, c.count-columns.ensures) (record {
      long = length-written at (2 * columns) old new within long ∙ i.long;
      done = λ n case lt.
          let half = half_of case * columns in
          let start = (2 * n + half_of case) * columns in
          let inside = row-within (half_of case) 2 columns (half-few case) in
          ⊎_elim
          (λ (e : n ≡ word). rw e (IsRow-moved tokens (63 * word) p is case half _ new _
          (λ r few. let here : (2 * word + half_of case) * columns + r ≡ at + (half + r) = omega arith in
          ap (mask_at _) here ∙ placed at (2 * columns) old new within long (half + r) (omega (arith, few, inside)))
          (c.fill_word.ensures.rows case)))
          (λ (ne : n ≢ word).
          let earlier = row-within (2 * n + half_of case) (2 * word) columns (omega (arith, lt, ne, half-few case)) in
          IsRow-moved tokens (63 * n) p is case start start old _
          (λ r few. before at (2 * columns) old new within long (start + r) (omega (arith, few, earlier)))
          (i.done n case (omega (arith, lt, ne))))
          (cases_eq n word);
      left = λ r le.
          let from : at + 2 * columns ≤ r = omega (arith, le) in
          past at (2 * columns) old new within long r from ∙ i.left r (omega (arith, from));
    })
