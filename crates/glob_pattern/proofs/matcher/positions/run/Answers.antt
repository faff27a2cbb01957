use Rattle.std.proofs.Common.{◌≡◌, ◌-◌, ◌∙◌, [], ◌∷◌, refl, sym, arith, map}
use Rattle.std.proofs.Math.Nat.{le_refl}
use Rattle.glob_pattern.specs.Private.Positions.{word_before, word_end}
use Rattle.glob_pattern.proofs.PositionLemmas.Words.{whole-at_start, whole-later, IsTakenWord-none, AreAlive-alone}
use Rattle.glob_pattern.proofs.PositionLemmas.Running.{HasRun-start, HasRun-stepped, HasRun-room, HasDecided-ended}
use Rattle.glob_pattern.proofs.PositionLemmas.Running.{HasDecided-dead, HasDecided-accepting}
use Rattle.glob_pattern.proofs.matcher.positions.run.Goals as goal

pub loop-alive-init : goal.loop-alive-init
loop-alive-init g c =
    let ready = c.requires.ready in
    let T = g.J.Judge.table c.args.judge.now in
    let shapes = map g.T.Shaped.shape c.args.tokens.now in
    let says = c.step-alive.ensures T shapes c.args.span.end 0 0 (omega arith) ready.shaped.within
    (ready.shaped.word 0 c.args.word ready.shaped.some) (IsTakenWord-none T shapes c.args.span.end 0)
    (rw ready.place at c.opens.ensures) (whole-at_start T shapes 0) in
    record {
      run = HasRun-start T shapes c.args.span.end _ _ (c.step-alive.result ∷ []) ready.place
          (AreAlive-alone T shapes c.args.span.end 0 c.step-alive.result says);
      same = refl;
    }

pub ask-took-requires : goal.ask-took-requires
ask-took-requires g c =
    let i = c.loop-alive.invariant in
    let ready = c.requires.ready in
    let shapes = map g.T.Shaped.shape c.args.tokens.now in
    let same = c.step.ensures.same ∙ i.same in
    let (next, within) = rw same at (c.step.ensures.stepped c.if-not-step.false) in
    let back : g.J.Judge.place c.step.new.self - 1 ≡ g.J.Judge.place c.loop-alive.judge = omega (arith, next) in
    let room = HasRun-room (g.J.Judge.table c.args.judge.now) shapes c.args.span.end _ _ _ _ i.run
    (omega (arith, next, within)) ready.room in
    rw same (record {
      stepped = omega (arith, next);
      from = omega arith;
      within = ready.shaped.within;
      shaped = ready.shaped.word 0 c.args.word ready.shaped.some;
      fits = ready.fits;
      tokens = ready.tokens;
      before = rw back (i.run.alive.word 0 (le_refl 0) (omega arith));
      room = rw c.step.ensures.count (omega (arith, room));
    })

pub loop-alive-preserved : goal.loop-alive-preserved
loop-alive-preserved g c =
    let i = c.loop-alive.invariant in
    let ready = c.requires.ready in
    let T = g.J.Judge.table c.args.judge.now in
    let shapes = map g.T.Shaped.shape c.args.tokens.now in
    let p = g.J.Judge.place c.step.new.self in
    let same = c.step.ensures.same ∙ i.same in
    let (next, within) = rw same at (c.step.ensures.stepped c.if-not-step.false) in
    let asked = rw (same, c.step.ensures.count) at c.ask-took.ensures in
    let all : word_end c.args.span.end 0 ≡ c.args.span.end = omega (arith, ready.shaped.all) in
    let says = c.step_by-alive.ensures T shapes c.args.span.end 0 p (omega arith) ready.shaped.within
    (ready.shaped.word 0 c.args.word ready.shaped.some) asked.taken (rw (asked.place, asked.same) at c.opens-in-loop-alive.ensures)
    (whole-later T shapes p (omega (arith, next))) in
    record {
      run = rw asked.place (HasRun-stepped T shapes c.args.span.end _ _ _ _ i.run p _
          (c.step_by-alive.result ∷ []) ready.shaped.within next within (rw all at asked.asked)
          (AreAlive-alone T shapes c.args.span.end p c.step_by-alive.result says));
      same = asked.same;
    }

pub is_whole-requires-clause-all : goal.is_whole-requires-clause-all
is_whole-requires-clause-all g c = c.requires.ready.shaped.all

pub loop-alive-smaller : goal.loop-alive-smaller
loop-alive-smaller g c =
    let (next, within) = rw (c.step.ensures.same ∙ c.loop-alive.invariant.same) at (c.step.ensures.stepped c.if-not-step.false) in
    omega (arith, next, within, c.ask-took.ensures.place)

pub returns-then-not-step-clause-decided : goal.returns-then-not-step-clause-decided
returns-then-not-step-clause-decided g c =
    let i = c.loop-alive.invariant in
    let T = g.J.Judge.table c.args.judge.now in
    let shapes = map g.T.Shaped.shape c.args.tokens.now in
    let (stays, ended) = c.step.ensures.ended c.if-not-step.true in
    rw c.step.ensures.count
    (HasDecided-ended T shapes c.args.span _ _ _ _ i.run c.requires.ready.shaped.within c.is_whole.result
    (sym (rw (c.step.ensures.same, i.same) at ended)) (c.is_whole.ensures T _ i.run.alive))

pub returns-then-alive-span-ne0-clause-decided : goal.returns-then-alive-span-ne0-clause-decided
returns-then-alive-span-ne0-clause-decided g c =
    let ready = c.requires.ready in
    let first : word_before c.args.span.end ≡ 0 = omega (arith, ready.shaped.all) in
    HasDecided-accepting (g.J.Judge.table c.args.judge.now) (map g.T.Shaped.shape c.args.tokens.now) c.args.span _ _ _
    (c.loop-alive.alive ∷ []) c.loop-alive.invariant.run ready.shaped.within
    (omega (arith, first)) (rw first (omega arith)) (rw first (omega (arith, c.if-alive-span-ne0.true))) ready.accepting

pub returns-clause-decided : goal.returns-clause-decided
returns-clause-decided g c =
    let ready = c.requires.ready in
    HasDecided-dead (g.J.Judge.table c.args.judge.now)
    (map g.T.Shaped.shape c.args.tokens.now) c.args.span _ _ _ _ c.loop-alive.invariant.run ready.shaped.within
    ready.shaped.all (omega arith) (λ i lt. let first : i ≡ 0 = omega (arith, lt) in rw (first, c.loop-alive-test.false) refl)
