use Rattle.std.proofs.Common.{◌≡◌, ℕ, ◌+◌, ◌-◌, ◌*◌, ◌<◌, ◌≤◌, ◌≢◌, ◌∙◌, false, IsTrue, length, min, get_or, set, refl}
use Rattle.std.proofs.Common.{sym, inl, inr, ⊎_elim, arith, length-set, get_or-set_other, get_or-set_same, map}
use Rattle.std.proofs.Math.Nat.{le_refl}
use Rattle.std.proofs.lemmas.Bool.{cases_lt, false≢true}
use Rattle.glob_pattern.specs.Private.Prefixes.{PrefixSplits, HasTaken}
use Rattle.glob_pattern.specs.Private.Positions.{word_end, AreAlive}
use Rattle.glob_pattern.proofs.PositionLemmas.Alive.{PrefixSplits-none, none_whole}
use Rattle.glob_pattern.proofs.PositionLemmas.DeadWords.{none-taken_in_words, AreAlive-zeros, WereAsked-joined, WereAsked-none, IsLive-set}
use Rattle.glob_pattern.proofs.PositionLemmas.Words.{AreAlive-set, AreAlive-left, carry-whole}
use Rattle.glob_pattern.proofs.matcher.positions.step_words.Goals as goal

-- a word that there is begins within the shapes
begins : (n alive words many : ℕ) → n < alive → alive ≡ words → 63 * (words - 1) ≤ many → 63 * n ≤ many
begins n alive words many lt same few = omega (arith, lt, same, few)

pub loop-n-init : goal.loop-n-init
loop-n-init g c =
    let r = c.requires in
    let T = g.J.Judge.table c.args.judge.now in
    let shapes = map g.T.Shaped.shape c.args.tokens.now in
    let p = g.J.Judge.place c.args.judge.now in
    let alive = c.args.alive.now in
    let low = c.args.live.low in
    let within : low ≤ length alive = r.live.within in
    let few : 63 * (low - 1) ≤ c.args.end = omega (arith, within, r.many, r.shaped.few) in
    let zeros : (i : ℕ) → 0 ≤ i → i < low → get_or alive i 0 ≡ 0 = λ i from lt. r.live.none i (omega (arith, lt, within)) (inl lt) in
    let before : AreAlive T shapes c.args.end (p - 1) 0 low alive = record {
      word = λ i from lt. r.before.word i from
          (omega (arith, lt, within));
    } in
    let taken : (t : ℕ) → 63 * 0 ≤ t → t < 63 * low → t < c.args.end → ¬
    (HasTaken T shapes t p) = none-taken_in_words T shapes c.args.end alive 0 low p before zeros in
    record {
      count = refl;
      done = AreAlive-zeros T shapes c.args.end alive 0 low p (record {
        word = λ i from lt. absurd
            (omega (arith, lt));
      }) r.shaped.within few (λ lt. PrefixSplits-none T shapes p r.stepped) taken zeros;
      rest = record { word = λ i from lt. r.before.word i (omega arith) lt };
      zeros = λ i from lt high. r.live.none i lt (inr high);
      next = record { within = le_refl (length alive); none = λ i lt out. zeros i (omega arith) lt };
      whole = λ fits. (
        λ t. absurd {A = PrefixSplits T shapes (63 * low) p} (false≢true t),
        λ whole. absurd {A = IsTrue false} (none_whole T shapes p 0 (63 * low) (omega arith) (omega (arith, fits, r.shaped.within))
            (PrefixSplits-none T shapes p r.stepped) (λ t a lt. taken t (omega arith) lt (omega (arith, lt, fits))) whole),
      );
      asked = WereAsked-none T shapes 0 (min (63 * low) c.args.end) p (g.J.Judge.count c.args.judge.now)
          (λ t a lt. taken t (omega arith) (omega (arith, lt)) (omega (arith, lt)));
      place = refl;
      same = refl;
    }

pub step_word-word-requires : goal.step_word-word-requires
step_word-word-requires g c =
    let r = c.requires in
    let i = c.loop-n.invariant in
    let shapes = map g.T.Shaped.shape c.args.tokens.now in
    let n = c.loop-n.n in
    let lt : n < length c.loop-n.alive = rw i.count c.loop-n-test.true in
    let from : 63 * n ≤ c.args.end = begins n _ _ _ c.loop-n-test.true r.many r.shaped.few in
    rw (i.same, i.place) (record {
      ready = record {
        stepped = r.stepped;
        from = from;
        within = r.shaped.within;
        shaped = r.shaped.word n _ (rw r.many at c.loop-n-test.true);
        fits = r.fits;
        tokens = r.tokens;
        before = i.rest.word n (le_refl n) lt;
        room = omega (arith, i.asked.most, r.room, from);
      };
      opens = c.opens-opens.ensures;
      whole = i.whole from;
    })

pub loop-n-preserved : goal.loop-n-preserved
loop-n-preserved g c =
    let r = c.requires in
    let i = c.loop-n.invariant in
    let T = g.J.Judge.table c.args.judge.now in
    let shapes = map g.T.Shaped.shape c.args.tokens.now in
    let p = g.J.Judge.place c.args.judge.now in
    let n = c.loop-n.n in
    let list = c.loop-n.alive in
    let word = c.step_word-word.result in
    let long : length (set list n word) ≡ length list = length-set list n word in
    let lt : n < length list = rw i.count c.loop-n-test.true in
    let from : 63 * n ≤ c.args.end = begins n _ _ _ c.loop-n-test.true r.many r.shaped.few in
    let s = rw (i.same, i.place) at c.step_word-word.ensures in
    let done = AreAlive-set T shapes c.args.end p n list word i.done lt s.alive in
    let here : get_or (set list n word) n 0 ≡ word = get_or-set_same list n word 0 lt in
    let begin : min (63 * n) c.args.end ≡ 63 * n = omega (arith, from) in
    let end : min (63 * (n + 1)) c.args.end ≡ word_end c.args.end (63 * n) = omega arith in
    record {
      count = long ∙ i.count;
      done = done;
      rest = rw long (AreAlive-left T shapes c.args.end (p - 1) n list word (length list) i.rest);
      zeros = λ m low below high.
          let other : m ≢ n = omega (arith, low) in
          rw (get_or-set_other list n m word 0 other) (i.zeros m (omega (arith, low)) (omega (arith, below, long)) high);
      next = c.with-next.ensures (set list n word) (omega (arith, lt, long)) here (IsLive-set list n _ _ word i.next);
      whole = λ fits.
          let at : n + 1 - 1 ≡ n = omega arith in
          carry-whole T shapes c.args.end p (n + 1) (set list n word) done (omega arith) fits word (omega arith) (rw (at, here) refl);
      asked = rw end (WereAsked-joined T shapes 0 (63 * n) (word_end c.args.end (63 * n)) p _ _ _ (omega arith) (omega (arith, from))
          (rw begin at i.asked) s.asked);
      place = s.place;
      same = s.same;
    }

pub returns-clause-stepped : goal.returns-clause-stepped
returns-clause-stepped g c =
    let r = c.requires in
    let i = c.loop-n.invariant in
    let end : c.loop-n.n ≡ length c.loop-n.alive = omega (arith, i.count, r.live.within) in
    let all : min (63 * c.loop-n.n) c.args.end ≡ c.args.end = omega (arith, end, i.count, r.many, r.shaped.all) in
    record { many = i.count; alive = rw end at i.done; asked = rw all at i.asked }

pub returns-clause-live : goal.returns-clause-live
returns-clause-live g c =
    let i = c.loop-n.invariant in
    let end : c.loop-n.n ≡ length c.loop-n.alive = omega (arith, i.count, c.requires.live.within) in
    rw end at i.next

pub returns-then-live-n-clause-stepped : goal.returns-then-live-n-clause-stepped
returns-then-live-n-clause-stepped g c =
    let r = c.requires in
    let i = c.loop-n.invariant in
    let T = g.J.Judge.table c.args.judge.now in
    let shapes = map g.T.Shaped.shape c.args.tokens.now in
    let p = g.J.Judge.place c.args.judge.now in
    let n = c.loop-n.n in
    let list = c.loop-n.alive in
    let from : 63 * n ≤ c.args.end = begins n _ _ _ c.loop-n-test.true r.many r.shaped.few in
    let few : 63 * (length list - 1) ≤ c.args.end = omega (arith, i.count, r.many, r.shaped.few) in
    let all : c.args.end ≤ 63 * length list = omega (arith, i.count, r.many, r.shaped.all) in
    let begin : min (63 * n) c.args.end ≡ 63 * n = omega (arith, from) in
    let zeros : (m : ℕ) → n ≤ m → m < length list → get_or list m 0 ≡ 0 = λ m low below. i.zeros m low below
    (omega (arith, low, c.if-live-n.true)) in
    let taken : (t : ℕ) → 63 * n ≤ t → t < 63 * length list → t < c.args.end → ¬
    (HasTaken T shapes t p) = none-taken_in_words T shapes c.args.end list n (length list) p i.rest zeros in
    record {
      many = i.count;
      alive = AreAlive-zeros T shapes c.args.end list n (length list) p i.done r.shaped.within few
          (λ lt whole. false≢true (sym c.if-not-whole.true ∙ (i.whole from).1 whole)) taken zeros;
      asked = WereAsked-joined T shapes 0 (63 * n) c.args.end p _ _ _ (omega arith) from (rw begin at i.asked)
          (WereAsked-none T shapes (63 * n) c.args.end p _ (λ t low lt. taken t low (omega (arith, lt, all)) lt));
    }

pub returns-then-live-n-clause-live : goal.returns-then-live-n-clause-live
returns-then-live-n-clause-live g c =
    let i = c.loop-n.invariant in
    record {
      within = i.next.within;
      none = λ m below out. ⊎_elim (λ before. i.next.none m before out) (λ from. i.zeros m from below
          (omega (arith, from, c.if-live-n.true))) (cases_lt m c.loop-n.n);
    }
