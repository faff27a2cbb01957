use Rattle.std.proofs.Common.{◌≡◌, ◌-◌, ◌^◌, ◌<◌, ◌∙◌, length, get_or, bit_and, sym, inr, arith, map}
use Rattle.glob_pattern.proofs.PositionLemmas.Running.{HasRun-stepped, HasRun-room, HasDecided-ended}
use Rattle.glob_pattern.proofs.PositionLemmas.Running.{HasDecided-dead, HasDecided-accepting}
use Rattle.glob_pattern.proofs.matcher.positions.run_words.Goals as goal

pub loop-live-init : goal.loop-live-init
loop-live-init g c =
    let (run, live) = c.in-Some.ensures.run in
    record { count = c.run_first.ensures.length; run = run; live = live; same = c.run_first.ensures.same }

pub step_words-live-requires : goal.step_words-live-requires
step_words-live-requires g c =
    let i = c.loop-live.invariant in
    let ready = c.requires.ready in
    let shapes = map g.T.Shaped.shape c.args.tokens.now in
    let same = c.step.ensures.same ∙ i.same in
    let (next, within) = rw same at (c.step.ensures.stepped c.if-not-step.false) in
    let back : g.J.Judge.place c.step.new.self - 1 ≡ g.J.Judge.place c.loop-live.judge = omega (arith, next) in
    let room = HasRun-room (g.J.Judge.table c.args.judge.now) shapes c.args.span.end _ _ _ _ i.run
    (omega (arith, next, within)) ready.room in
    rw same (record {
      shaped = ready.shaped;
      many = i.count ∙ c.requires.length;
      stepped = omega (arith, next);
      fits = ready.fits;
      tokens = ready.tokens;
      room = rw c.step.ensures.count room;
      live = i.live;
      before = rw back i.run.alive;
    })

pub loop-live-preserved : goal.loop-live-preserved
loop-live-preserved g c =
    let i = c.loop-live.invariant in
    let T = g.J.Judge.table c.args.judge.now in
    let shapes = map g.T.Shaped.shape c.args.tokens.now in
    let same = c.step.ensures.same ∙ i.same in
    let (next, within) = rw same at (c.step.ensures.stepped c.if-not-step.false) in
    let s = rw (same, c.step.ensures.count) at c.step_words-live.ensures in
    record {
      count = s.stepped.many ∙ i.count;
      run = rw s.place (HasRun-stepped T shapes c.args.span.end _ _ _ c.loop-live.alive i.run _ _
          c.step_words-live.new.alive c.requires.ready.shaped.within next within s.stepped.asked s.stepped.alive);
      live = s.live;
      same = s.same;
    }

pub loop-live-smaller : goal.loop-live-smaller
loop-live-smaller g c =
    let (next, within) = rw (c.step.ensures.same ∙ c.loop-live.invariant.same) at (c.step.ensures.stepped c.if-not-step.false) in
    omega (arith, next, within, c.step_words-live.ensures.place)

pub is_whole-requires-clause-some : goal.is_whole-requires-clause-some
is_whole-requires-clause-some g c = rw (c.loop-live.invariant.count, c.requires.length) c.requires.ready.shaped.some

pub is_whole-requires-clause-all : goal.is_whole-requires-clause-all
is_whole-requires-clause-all g c = rw (c.loop-live.invariant.count, c.requires.length) c.requires.ready.shaped.all

pub returns-then-not-step-clause-decided : goal.returns-then-not-step-clause-decided
returns-then-not-step-clause-decided g c =
    let i = c.loop-live.invariant in
    let T = g.J.Judge.table c.args.judge.now in
    let (stays, ended) = c.step.ensures.ended c.if-not-step.true in
    rw c.step.ensures.count
    (HasDecided-ended T (map g.T.Shaped.shape c.args.tokens.now) c.args.span _ _ _ _ i.run c.requires.ready.shaped.within c.is_whole.result
    (sym (rw (c.step.ensures.same, i.same) at ended)) (c.is_whole.ensures T _ i.run.alive))

pub returns-clause-decided : goal.returns-clause-decided
returns-clause-decided g c =
    let i = c.loop-live.invariant in
    let ready = c.requires.ready in
    let long : length c.loop-live.alive ≡ length c.args.words.now = i.count ∙ c.requires.length in
    HasDecided-dead (g.J.Judge.table c.args.judge.now)
    (map g.T.Shaped.shape c.args.tokens.now) c.args.span _ _ _ _ i.run ready.shaped.within
    (rw long ready.shaped.all) (rw long ready.shaped.some) (λ m lt. i.live.none m lt (inr (omega (arith, c.loop-live-test.false))))

pub returns-then-alive-last-ne0-clause-decided : goal.returns-then-alive-last-ne0-clause-decided
returns-then-alive-last-ne0-clause-decided g c =
    let i = c.loop-live.invariant in
    let ready = c.requires.ready in
    let long : length c.loop-live.alive ≡ length c.args.words.now = i.count ∙ c.requires.length in
    let fits : get_or c.loop-live.alive c.word_before-last.result 0 < 2 ^ 64 = omega arith in
    let meets : 0 < bit_and (get_or c.loop-live.alive c.word_before-last.result 0) c.args.span.accepting = omega
    (arith, c.if-alive-last-ne0.true) in
    HasDecided-accepting (g.J.Judge.table c.args.judge.now)
    (map g.T.Shaped.shape c.args.tokens.now) c.args.span _ _ _ c.loop-live.alive i.run ready.shaped.within
    (omega (arith, long, ready.shaped.all, ready.shaped.some)) (rw c.word_before-last.ensures at fits)
    (rw c.word_before-last.ensures at meets) ready.accepting
