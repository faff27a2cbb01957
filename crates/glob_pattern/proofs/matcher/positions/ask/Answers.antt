use Rattle.std.proofs.Common.{◌*◌, ⊎_elim, count_ones, bit_and, arith, map}
use Rattle.std.proofs.lemmas.Bool.{cases_eq}
use Rattle.glob_pattern.proofs.PositionLemmas.Words.{asked-in_word, ones-in_word, IsTakenWord-asked, none-taken_unasked}
use Rattle.glob_pattern.proofs.matcher.positions.ask.Goals as goal

pub takes_each-requires-clause-stepped : goal.takes_each-requires-clause-stepped
takes_each-requires-clause-stepped g c = c.requires.stepped

pub takes_each-requires-clause-tokens : goal.takes_each-requires-clause-tokens
takes_each-requires-clause-tokens g c = λ j set.
    let within = asked-in_word (g.J.Judge.table c.args.judge.now) (map g.T.Shaped.shape c.args.tokens.now) c.args.end
    (63 * c.args.n) c.args.word c.requires.from c.requires.within c.requires.shaped c.args.alive (omega arith) j set in
    (within.0, omega (arith, within.1, c.requires.fits), omega (arith, within.1, c.requires.tokens))

pub takes_each-requires-clause-room : goal.takes_each-requires-clause-room
takes_each-requires-clause-room g c =
    let few = ones-in_word (g.J.Judge.table c.args.judge.now) (map g.T.Shaped.shape c.args.tokens.now) c.args.end
    (63 * c.args.n) c.args.word c.requires.from c.requires.within c.requires.shaped c.args.alive (omega arith) in
    omega (arith, c.requires.room, few)

pub returns-clause-taken : goal.returns-clause-taken
returns-clause-taken g c =
    IsTakenWord-asked (g.J.Judge.table c.args.judge.now) (map g.T.Shaped.shape c.args.tokens.now) c.args.end
    (63 * c.args.n) c.args.word c.requires.from c.requires.within c.requires.shaped
    (g.J.Judge.place c.args.judge.now) c.args.alive c.takes_each.result c.takes_each.ensures.took c.requires.stepped c.requires.before

pub returns-clause-asked : goal.returns-clause-asked
returns-clause-asked g c =
    let T = g.J.Judge.table c.args.judge.now in
    let shapes = map g.T.Shaped.shape c.args.tokens.now in
    let start = 63 * c.args.n in
    let p = g.J.Judge.place c.args.judge.now in
    let h = c.takes_each.ensures in
    let few = ones-in_word T shapes c.args.end start c.args.word c.requires.from c.requires.within c.requires.shaped c.args.alive
    (omega arith) in
    let taken = IsTakenWord-asked T shapes c.args.end start c.args.word c.requires.from c.requires.within
    c.requires.shaped p c.args.alive c.takes_each.result h.took c.requires.stepped c.requires.before in
    record {
      monotone = omega (arith, h.count);
      most = omega (arith, h.count, few);
      least = λ n n_from n_lt took. ⊎_elim
          (λ none. absurd (none-taken_unasked T shapes c.args.end start c.args.word c.requires.from c.requires.within
          c.requires.shaped p c.args.alive c.takes_each.result h.took taken none n n_from n_lt took))
          (λ some. omega (arith, some, h.count))
          (cases_eq (count_ones (bit_and c.args.alive c.args.word.tokens)) 0);
    }
