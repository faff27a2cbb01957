use Rattle.std.proofs.Common.{◌∙◌, ◌*◌, sym, map}
use Rattle.std.proofs.lemmas.Bool.{false≢true}
use Rattle.glob_pattern.proofs.PositionLemmas.DeadWords.{none-taken, IsAliveWord-zero, WereAsked-none}
use Rattle.glob_pattern.specs.Private.Positions.{word_end}
use Rattle.glob_pattern.proofs.matcher.positions.step_word.Goals as goal

pub ask-took-requires : goal.ask-took-requires
ask-took-requires g c = c.requires.ready

pub returns-then-not-whole-clause-alive : goal.returns-then-not-whole-clause-alive
returns-then-not-whole-clause-alive g c =
    let T = g.J.Judge.table c.args.judge.now in
    let shapes = map g.T.Shaped.shape c.args.tokens.now in
    let start = 63 * c.args.n in
    let p = g.J.Judge.place c.args.judge.now in
    let none = none-taken T shapes c.args.end start p (rw c.if-alive-eq0.true at c.requires.ready.before) in
    IsAliveWord-zero T shapes c.args.end start p c.requires.ready.from c.requires.ready.within
    (λ whole. false≢true (sym c.if-not-whole.true ∙ c.requires.whole.1 whole)) none

pub returns-then-not-whole-clause-asked : goal.returns-then-not-whole-clause-asked
returns-then-not-whole-clause-asked g c =
    let T = g.J.Judge.table c.args.judge.now in
    let shapes = map g.T.Shaped.shape c.args.tokens.now in
    let start = 63 * c.args.n in
    let p = g.J.Judge.place c.args.judge.now in
    let none = none-taken T shapes c.args.end start p (rw c.if-alive-eq0.true at c.requires.ready.before) in
    WereAsked-none T shapes start (word_end c.args.end start) p (g.J.Judge.count c.args.judge.now) none

pub returns-clause-alive : goal.returns-clause-alive
returns-clause-alive g c =
    c.step.ensures (g.J.Judge.table c.args.judge.now) (map g.T.Shaped.shape c.args.tokens.now) c.args.end (63 * c.args.n)
    (g.J.Judge.place c.args.judge.now)
    c.requires.ready.from c.requires.ready.within c.requires.ready.shaped c.ask-took.ensures.taken c.requires.opens c.requires.whole
