use Rattle.std.proofs.Common.{◌≡◌, ◌*◌, ◌++◌, ◌∷◌, [], length, get_or, ⊎_elim, ap, sym, subst, arith, map}
use Rattle.std.proofs.lemmas.Bool.{cases_eq}
use Rattle.std.proofs.lemmas.List.{length-append, length-map, get_or_append_left, get_or_push}
use Rattle.glob_pattern.specs.Private.Positions.{IsShapeWord}
use Rattle.glob_pattern.proofs.matcher.shape_word.shape_words.Goals as goal

pub loop-n-init : goal.loop-n-init
loop-n-init g c = record { count = ap length c.in_ok-words.ensures.items; word = λ i d lt. absurd (omega (arith, lt)) }

pub loop-n-preserved : goal.loop-n-preserved
loop-n-preserved g c =
    let i = c.loop-n.invariant in
    let words = c.loop-n.words.items in
    rw c.in_ok-push.ensures.items (record {
      count = omega (arith, length-append words (c.new.result ∷ []), i.count);
      word = λ m d lt.
          ⊎_elim
          (λ e. let at : get_or (words ++ c.new.result ∷ []) m d ≡ c.new.result = get_or_push words c.new.result d m
          (omega (arith, e, i.count)) in rw at (subst (λ n. IsShapeWord (map g.T.Shaped.shape c.args.tokens.now) c.args.end
          (63 * n) c.new.result) (sym e) c.new.ensures))
          (λ ne. let at : get_or (words ++ c.new.result ∷ []) m d ≡ get_or words m d = get_or_append_left words
          (c.new.result ∷ []) d m (omega (arith, ne, lt, i.count)) in rw at (i.word m d (omega arith)))
          (cases_eq m c.loop-n.n);
    })

pub loop-n-smaller : goal.loop-n-smaller
loop-n-smaller g c = omega arith

pub overflow_mul-n : goal.overflow_mul-n
overflow_mul-n g c = omega (arith, c.div_ceil.ensures, c.max-count.ensures)

pub new-requires-clause-start : goal.new-requires-clause-start
new-requires-clause-start g c = omega (arith, c.div_ceil.ensures, c.max-count.ensures)

pub returns : goal.returns
returns g c =
    let i = c.loop-n.invariant in
    record {
      within = omega (arith, length-map c.args.tokens.now g.T.Shaped.shape, c.requires);
      some = omega (arith, i.count, c.max-count.ensures);
      all = omega (arith, i.count, c.div_ceil.ensures, c.max-count.ensures);
      few = omega (arith, i.count, c.div_ceil.ensures, c.max-count.ensures);
      word = λ k d lt. i.word k d (omega (arith, lt, i.count));
    }
