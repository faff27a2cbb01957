use Rattle.std.proofs.Common.{◌≡◌, ℕ, ◌+◌, ◌-◌, ◌*◌, ◌<◌, ◌≤◌, ◌≢◌, ◌∙◌, length, set, refl, sym, ⊎_elim, arith}
use Rattle.std.proofs.Common.{length-set, get_or-set_same, get_or-set_other, map}
use Rattle.std.proofs.Math.Nat.{le_refl}
use Rattle.std.proofs.lemmas.Bool.{false≢true}
use Rattle.glob_pattern.specs.Private.Positions.{AreAlive, CanSet, IsTakenWord}
use Rattle.glob_pattern.specs.Matching.Splits.{Table}
use Rattle.glob_pattern.proofs.BitLemmas.SetBits.{IsBitSet-zero}
use Rattle.glob_pattern.proofs.PositionLemmas.DeadWords.{AreAlive-zeros}
use Rattle.glob_pattern.proofs.PositionLemmas.Words.{AreAlive-set, carry-whole}
use Rattle.glob_pattern.proofs.matcher.positions.set_words.Goals as goal

pub loop-n-init : goal.loop-n-init
loop-n-init g c = record {
  count = refl;
  low = le_refl c.args.from;
  high = c.requires.from;
  zeros = c.requires.none;
  done = λ table k can. can.before;
  whole = λ table k can le. (λ t. can.whole, λ w. refl);
}

pub loop-n-preserved : goal.loop-n-preserved
loop-n-preserved g c =
    let i = c.loop-n.invariant in
    let shapes = map g.T.Shaped.shape c.args.tokens.now in
    let n = c.loop-n.n in
    let list = c.loop-n.alive in
    let word = c.step-word.result in
    let long : length (set list n word) ≡ length list = length-set list n word in
    let lt : n < length list = omega (arith, i.count, c.loop-n-test.true) in
    let from : 63 * n ≤ c.args.end = omega (arith, i.count, c.requires.words.few, c.requires.length, c.loop-n-test.true) in
    let are = c.requires.words.word n (record { tokens = 0; wildcards = 0; recursive = 0 })
    (omega (arith, i.count, c.requires.length, c.loop-n-test.true)) in
    let next : (table : Table) (k : ℕ) → CanSet table shapes c.args.end c.args.from k c.args.opens c.args.alive.now
    → AreAlive table shapes c.args.end k 0 (n + 1) (set list n word) = λ table k can.
    let taken : IsTakenWord table shapes c.args.end (63 * n) k 0 = record {
      taken = λ j within. (
        λ bit. absurd (IsBitSet-zero j bit),
        λ t. absurd (can.none (63 * n + j) (omega (arith, i.low)) (omega (arith, within)) t),
      );
    } in
    AreAlive-set table shapes c.args.end k n list word (i.done table k can) lt
    (c.step-word.ensures table shapes c.args.end (63 * n) k from c.requires.words.within are
    taken can.begins (i.whole table k can from)) in
    record {
      count = long ∙ i.count;
      low = omega (arith, i.low);
      high = omega (arith, lt, long);
      zeros = λ m low below.
          let other : m ≢ n = omega (arith, low) in
          rw (get_or-set_other list n m word 0 other) (i.zeros m (omega (arith, low)) (omega (arith, below, long)));
      done = next;
      whole = λ table k can le.
          let at : n + 1 - 1 ≡ n = omega arith in
          carry-whole table shapes c.args.end k (n + 1) _ (next table k can) (omega arith) le word (omega arith)
          (rw (at, get_or-set_same list n word 0 lt) cc);
    }

pub returns-clause-live : goal.returns-clause-live
returns-clause-live g c =
    let i = c.loop-n.invariant in
    record {
      within = omega arith;
      none = λ m lt out. absurd (⊎_elim (λ low. omega (arith, low)) (λ high. omega
          (arith, high, lt, i.count)) out);
    }

pub returns-clause-alive : goal.returns-clause-alive
returns-clause-alive g c = λ table k can.
    let i = c.loop-n.invariant in
    let end : c.loop-n.n ≡ length c.loop-n.alive = omega (arith, i.count, i.high, c.loop-n-test.false) in
    rw end at (i.done table k can)

pub returns-then-not-whole-clause-live : goal.returns-then-not-whole-clause-live
returns-then-not-whole-clause-live g c = record {
  within = omega arith;
  none = λ m lt out. ⊎_elim (λ low. absurd
      (omega (arith, low))) (λ high. c.loop-n.invariant.zeros m high lt) out;
}

pub returns-then-not-whole-clause-alive : goal.returns-then-not-whole-clause-alive
returns-then-not-whole-clause-alive g c = λ table k can.
    let i = c.loop-n.invariant in
    let shapes = map g.T.Shaped.shape c.args.tokens.now in
    let n = c.loop-n.n in
    let few : 63 * (length c.loop-n.alive - 1) ≤ c.args.end = omega (arith, i.count, c.requires.length, c.requires.words.few) in
    let from : 63 * n ≤ c.args.end = omega (arith, i.count, few, c.loop-n-test.true) in
    AreAlive-zeros table shapes c.args.end c.loop-n.alive n (length c.loop-n.alive) k (i.done table k can) c.requires.words.within few
    (λ lt whole. false≢true (sym c.if-not-whole.true ∙ (i.whole table k can from).1 whole))
    (λ t low below within. can.none t (omega (arith, low, i.low)) within)
    i.zeros
