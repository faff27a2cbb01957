use Rattle.std.proofs.Common.{◌≡◌, ℕ, ◌+◌, ◌-◌, ◌*◌, ◌/◌, ◌^◌, ◌<◌, ◌≤◌, ◌∙◌, List, length, set, get_or, refl, sym, inr, ⊎_elim, arith, map}
use Rattle.std.proofs.Common.{false, not, nat_eq, IsTrue}
use Rattle.std.proofs.Common.{length-set, get_or-set_other, get_or-set_same}
use Rattle.std.proofs.Math.Nat.{le_refl}
use Rattle.glob_pattern.specs.Matching.Splits.{Table}
use Rattle.glob_pattern.specs.Private.Prefixes.{HasTaken, PrefixSplits}
use Rattle.glob_pattern.specs.Private.Positions.{word_end, AreAlive, HasRun, WereAsked}
use Rattle.glob_pattern.specs.declared.matcher.Shape.{Shape}
use Rattle.std.proofs.lemmas.Bool.{cases_eq, ne_eqb, false≢true}
use Rattle.glob_pattern.proofs.BitLemmas.SetBits.{IsBitSet-zero, highest_set}
use Rattle.glob_pattern.proofs.PositionLemmas.Alive.{HasTaken-none}
use Rattle.glob_pattern.proofs.PositionLemmas.DeadWords.{AreAlive-first, none-taken_in_words, WereAsked-joined, WereAsked-none}
use Rattle.glob_pattern.proofs.PositionLemmas.Words.{whole-at_start, whole-later, IsTakenWord-none, AreAlive-set, carry-whole, end-in_word}
use Rattle.glob_pattern.proofs.PositionLemmas.Running.{HasRun-start, HasRun-stepped, HasRun-room, HasDecided-ended, HasDecided-dead}
use Rattle.glob_pattern.proofs.matcher.positions.run_first.Goals as goal

module _ (table : Table) (shapes : List Shape) (end : ℕ) where
  -- the tokens of the words that are not live take nothing in a step
  none-taken_later : (first k count : ℕ) (list : List ℕ) (word p : ℕ) → HasRun table shapes end first k count (set list 0 word) → p ≡ k + 1
      → end ≤ 63 * length list → ((n : ℕ) → n < length list → get_or list n 0 ≡ 0)
      → (t : ℕ) → 63 ≤ t → t < end → ¬ (HasTaken table shapes t p)
  none-taken_later first k count list word p run next all zeros t from lt =
      let many = length-set list 0 word in
      let back : p - 1 ≡ k = omega (arith, next) in
      none-taken_in_words table shapes end (set list 0 word) 1 (length list) p
      (rw back (record { word = λ n low high. run.alive.word n (omega arith) (omega (arith, high, many)) }))
      (λ n low high. rw (get_or-set_other list 0 n word 0 (omega (arith, low))) (zeros n high))
      t (omega (arith, from)) (omega (arith, lt, all)) lt

  -- so that asking those of the first word is asking all
  asked-all : (p before after : ℕ) → WereAsked table shapes 0 (word_end end 0) p before after
      → ((t : ℕ) → 63 ≤ t → t < end → ¬ (HasTaken table shapes t p)) → WereAsked table shapes 0 end p before after
  asked-all p before after asked none = WereAsked-joined table shapes 0 (word_end end 0) end p before after after
      (omega arith) (omega arith) asked
      (WereAsked-none table shapes (word_end end 0) end p after (λ t low lt. none t (omega (arith, low, lt)) lt))

  -- where no position after the first word is alive, the shapes are not whole
  none-whole : (first k count : ℕ) (list : List ℕ) (word : ℕ) → HasRun table shapes end first k count (set list 0 word)
      → 1 < length list → 63 * (length list - 1) ≤ end → end ≤ 63 * length list → ((n : ℕ) → n < length list → get_or list n 0 ≡ 0)
      → word / 2 ^ 63 ≡ 0 → word < 2 ^ 64 → ¬ (PrefixSplits table shapes end k)
  none-whole first k count list word run more few all zeros low fits whole =
      let many = length-set list 0 word in
      ⊎_elim
      (λ at. let bit = (end-in_word table shapes end k (set list 0 word) run.alive 0 63 (omega (arith, many, more)) (omega (arith, at))
      (omega arith)).1 whole in
      (highest_set word fits).1 (rw (get_or-set_same list 0 word 0 (omega (arith, more))) at bit) low)
      (λ ne. let w = (end - 1) / 63 in
      let bit = (end-in_word table shapes end k (set list 0 word) run.alive w (end - 63 * w) (omega (arith, many, all, more)) (omega arith)
      (omega arith)).1 whole in
      let none : get_or (set list 0 word) w 0 ≡ 0 = rw (get_or-set_other list 0 w word 0 (omega (arith, ne, few, more)))
      (zeros w (omega (arith, all, more))) in
      IsBitSet-zero (end - 63 * w) (rw none at bit))
      (cases_eq end 63)

pub returns-then-first-ne0-clause-run : goal.returns-then-first-ne0-clause-run
returns-then-first-ne0-clause-run g c =
    let ready = c.requires.ready in
    let T = g.J.Judge.table c.args.judge.now in
    let shapes = map g.T.Shaped.shape c.args.tokens.now in
    let all = c.set_words.ensures.alive T 0 (record {
      begins = rw ready.place at c.opens-then-first-ne0.ensures;
      before = record { word = λ i from lt. absurd (omega (arith, lt)) };
      whole = (whole-at_start T shapes 0).0 refl;
      none = λ t from lt. HasTaken-none T shapes t;
    }) in
    (HasRun-start T shapes c.args.span.end _ _ _ ready.place all, c.set_words.ensures.live)

pub loop-first-init : goal.loop-first-init
loop-first-init g c =
    let ready = c.requires.ready in
    let T = g.J.Judge.table c.args.judge.now in
    let shapes = map g.T.Shaped.shape c.args.tokens.now in
    let first = c.step-first.result in
    let says = c.step-first.ensures T shapes c.args.span.end 0 0 (omega arith) ready.shaped.within
    (ready.shaped.word 0 _ ready.shaped.some) (IsTakenWord-none T shapes c.args.span.end 0)
    (rw ready.place at c.opens.ensures) (whole-at_start T shapes 0) in
    let low : first / 2 ^ 63 ≡ 0 = omega (arith, c.if-first-ne0.false) in
    let many : length (set c.args.alive.now 0 first) ≡ length c.args.alive.now = length-set c.args.alive.now 0 first in
    let alive = AreAlive-first T shapes c.args.span.end c.args.alive.now first 0 (omega (arith, c.requires.length, c.requires.many))
    ready.shaped.within (omega (arith, c.requires.length, ready.shaped.few))
    (λ i lt. c.requires.none.none i lt (inr (omega arith))) (omega arith) low says (λ t from lt. HasTaken-none T shapes t) in
    record {
      still = refl;
      low = low;
      run = HasRun-start T shapes c.args.span.end _ _ _ ready.place (rw many alive);
      same = refl;
    }

pub returns-then-not-step-clause-decided : goal.returns-then-not-step-clause-decided
returns-then-not-step-clause-decided g c =
    let i = c.loop-first.invariant in
    let ready = c.requires.ready in
    let T = g.J.Judge.table c.args.judge.now in
    let shapes = map g.T.Shaped.shape c.args.tokens.now in
    let end = c.args.span.end in
    let (stays, ended) = c.step.ensures.ended c.if-not-step.true in
    let many : length c.loop-first.alive ≡ length c.args.words.now = rw i.still c.requires.length in
    let zeros : (n : ℕ) → n < length c.loop-first.alive → get_or c.loop-first.alive n 0 ≡ 0 = λ n lt.
    rw i.still (c.requires.none.none n (rw i.still at lt) (inr (omega arith))) in
    rw c.step.ensures.count
    (HasDecided-ended T shapes c.args.span _ _ _ _ i.run ready.shaped.within false (sym (rw (c.step.ensures.same, i.same) at ended)) (
      λ t. absurd (false≢true t),
      λ whole. absurd (none-whole T shapes end _ _ _ c.loop-first.alive c.loop-first.first i.run
          (omega (arith, many, c.requires.many)) (omega (arith, many, ready.shaped.few)) (omega (arith, many, ready.shaped.all)) zeros i.low
          (omega arith) whole),
    ))

pub ask-took-requires : goal.ask-took-requires
ask-took-requires g c =
    let i = c.loop-first.invariant in
    let ready = c.requires.ready in
    let shapes = map g.T.Shaped.shape c.args.tokens.now in
    let same = c.step.ensures.same ∙ i.same in
    let (next, within) = rw same at (c.step.ensures.stepped c.if-not-step.false) in
    let back : g.J.Judge.place c.step.new.self - 1 ≡ g.J.Judge.place c.loop-first.judge = omega (arith, next) in
    let room = HasRun-room (g.J.Judge.table c.args.judge.now) shapes c.args.span.end _ _ _ _ i.run
    (omega (arith, next, within)) ready.room in
    let some : 0 < length c.loop-first.alive = rw i.still (omega (arith, c.requires.length, c.requires.many)) in
    let here = get_or-set_same c.loop-first.alive 0 c.loop-first.first 0 some in
    let many = length-set c.loop-first.alive 0 c.loop-first.first in
    rw same (record {
      stepped = omega (arith, next);
      from = omega arith;
      within = ready.shaped.within;
      shaped = ready.shaped.word 0 _ ready.shaped.some;
      fits = ready.fits;
      tokens = ready.tokens;
      before = rw back (rw here at (i.run.alive.word 0 (le_refl 0) (omega (arith, some, many))));
      room = rw c.step.ensures.count (omega (arith, room));
    })

pub returns-then-first-ne0-2-clause-run : goal.returns-then-first-ne0-2-clause-run
returns-then-first-ne0-2-clause-run g c =
    let i = c.loop-first.invariant in
    let ready = c.requires.ready in
    let T = g.J.Judge.table c.args.judge.now in
    let shapes = map g.T.Shaped.shape c.args.tokens.now in
    let end = c.args.span.end in
    let p = g.J.Judge.place c.step.new.self in
    let first = c.step-first-in-loop-first.result in
    let list = c.loop-first.alive in
    let (next, within) = rw (c.step.ensures.same ∙ i.same) at (c.step.ensures.stepped c.if-not-step.false) in
    let asked = rw (c.step.ensures.same ∙ i.same, c.step.ensures.count) at c.ask-took.ensures in
    let many : length list ≡ length c.args.words.now = rw i.still c.requires.length in
    let zeros : (n : ℕ) → n < length list → get_or list n 0 ≡ 0 = λ n lt.
    rw i.still (c.requires.none.none n (rw i.still at lt) (inr (omega arith))) in
    let taken = none-taken_later T shapes end _ _ _ list c.loop-first.first p i.run next (omega (arith, many, ready.shaped.all)) zeros in
    let says = c.step-first-in-loop-first.ensures T shapes end 0 p (omega arith) ready.shaped.within
    (ready.shaped.word 0 _ ready.shaped.some) asked.taken (rw (asked.place, asked.same) at c.opens-in-loop-first.ensures)
    (whole-later T shapes p (omega (arith, next))) in
    let some : 0 < length list = omega (arith, many, c.requires.many) in
    let part : AreAlive T shapes end p 0 1 (set list 0 first) = AreAlive-set T shapes end p 0 list first
    (record { word = λ n from lt. absurd (omega (arith, lt)) }) some says in
    let high : IsTrue (not (nat_eq (first / 2 ^ 63) 0)) = rw (ne_eqb (first / 2 ^ 63) 0 c.if-first-ne0-2.true) cc in
    let whole = (carry-whole T shapes end p 1 (set list 0 first) part (omega arith)
    (omega (arith, many, c.requires.many, ready.shaped.few)) first (omega arith) (sym (get_or-set_same list 0 first 0 some))).0 high in
    let all = c.set_words-then-first-ne0-2.ensures.alive T p (record {
      begins = rw (asked.place, asked.same) at c.opens-then-first-ne0-2.ensures;
      before = part;
      whole = whole;
      none = λ t from lt. taken t (omega (arith, from)) lt;
    }) in (
      rw asked.place (HasRun-stepped T shapes end _ _ _ (set list 0 c.loop-first.first) i.run p _ _ ready.shaped.within next within
          (asked-all T shapes end p _ _ asked.asked taken) all),
      c.set_words-then-first-ne0-2.ensures.live,
    )

pub loop-first-preserved : goal.loop-first-preserved
loop-first-preserved g c =
    let i = c.loop-first.invariant in
    let ready = c.requires.ready in
    let T = g.J.Judge.table c.args.judge.now in
    let shapes = map g.T.Shaped.shape c.args.tokens.now in
    let end = c.args.span.end in
    let p = g.J.Judge.place c.step.new.self in
    let first = c.step-first-in-loop-first.result in
    let list = c.loop-first.alive in
    let (next, within) = rw (c.step.ensures.same ∙ i.same) at (c.step.ensures.stepped c.if-not-step.false) in
    let asked = rw (c.step.ensures.same ∙ i.same, c.step.ensures.count) at c.ask-took.ensures in
    let many : length list ≡ length c.args.words.now = rw i.still c.requires.length in
    let zeros : (n : ℕ) → n < length list → get_or list n 0 ≡ 0 = λ n lt.
    rw i.still (c.requires.none.none n (rw i.still at lt) (inr (omega arith))) in
    let taken = none-taken_later T shapes end _ _ _ list c.loop-first.first p i.run next (omega (arith, many, ready.shaped.all)) zeros in
    let says = c.step-first-in-loop-first.ensures T shapes end 0 p (omega arith) ready.shaped.within
    (ready.shaped.word 0 _ ready.shaped.some) asked.taken (rw (asked.place, asked.same) at c.opens-in-loop-first.ensures)
    (whole-later T shapes p (omega (arith, next))) in
    let low : first / 2 ^ 63 ≡ 0 = omega (arith, c.if-first-ne0-2.false) in
    let all = AreAlive-first T shapes end list first p (omega (arith, many, c.requires.many)) ready.shaped.within
    (omega (arith, many, ready.shaped.few)) zeros (omega arith) low says taken in
    record {
      still = i.still;
      low = low;
      run = rw asked.place (HasRun-stepped T shapes end _ _ _ (set list 0 c.loop-first.first) i.run p _ (set list 0 first)
          ready.shaped.within next within (asked-all T shapes end p _ _ asked.asked taken) (rw (length-set list 0 first) all));
      same = asked.same;
    }

pub loop-first-smaller : goal.loop-first-smaller
loop-first-smaller g c =
    let (next, within) = rw (c.step.ensures.same ∙ c.loop-first.invariant.same) at (c.step.ensures.stepped c.if-not-step.false) in
    omega (arith, next, within, c.ask-took.ensures.place)

pub returns-clause-decided : goal.returns-clause-decided
returns-clause-decided g c =
    let i = c.loop-first.invariant in
    let ready = c.requires.ready in
    let list = c.loop-first.alive in
    let long : length list ≡ length c.args.alive.now = rw i.still refl in
    let some : 0 < length list = omega (arith, long, c.requires.length, c.requires.many) in
    let many : length (set list 0 c.loop-first.first) ≡ length c.args.words.now = length-set list 0 c.loop-first.first ∙
    rw i.still c.requires.length in
    HasDecided-dead (g.J.Judge.table c.args.judge.now)
    (map g.T.Shaped.shape c.args.tokens.now) c.args.span _ _ _ _ i.run ready.shaped.within
    (rw many ready.shaped.all) (rw many ready.shaped.some)
    (λ n lt. ⊎_elim
    (λ e. rw e (get_or-set_same list 0 c.loop-first.first 0 some ∙ c.loop-first-test.false))
    (λ ne. rw (get_or-set_other list 0 n c.loop-first.first 0 ne) (rw i.still (c.requires.none.none n
    (omega (arith, lt, length-set list 0 c.loop-first.first, long)) (inr (omega arith)))))
    (cases_eq n 0))
