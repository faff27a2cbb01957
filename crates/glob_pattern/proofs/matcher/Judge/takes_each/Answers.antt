use Rattle.std.proofs.Common.{ℕ, ◌+◌, ◌-◌, ◌*◌, ◌∙◌, IsTrue, refl, sym, arith}
use Rattle.std.proofs.lemmas.Nat.{and_le_r}
use Rattle.std.proofs.lemmas.Bool.{false≢true}
use Rattle.glob_pattern.proofs.BitLemmas.LowestBits.{lowest_set, IsBitSet-cleared, ones-cleared, took-more, next-taken, next-left}
use Rattle.glob_pattern.proofs.matcher.Judge.takes_each.Goals as goal
use Rattle.glob_pattern.proofs.matcher.Judge.takes_each.Goals.{then-takes, else-takes}

pub overflow_mul-word : goal.overflow_mul-word
overflow_mul-word g c =
    let lowest = lowest_set c.loop-left.left (omega arith) (omega arith) in
    omega (arith, (c.requires.tokens _ (c.loop-left.invariant.within _ lowest.1)).1)

pub overflow_add-word : goal.overflow_add-word
overflow_add-word g c =
    let lowest = lowest_set c.loop-left.left (omega arith) (omega arith) in
    omega (arith, (c.requires.tokens _ (c.loop-left.invariant.within _ lowest.1)).1)

pub takes-requires-clause-token : goal.takes-requires-clause-token
takes-requires-clause-token g c =
    let lowest = lowest_set c.loop-left.left (omega arith) (omega arith) in
    rw c.loop-left.invariant.same (c.requires.tokens _ (c.loop-left.invariant.within _ lowest.1)).2

pub takes-requires-clause-room : goal.takes-requires-clause-room
takes-requires-clause-room g c =
    let lowest = lowest_set c.loop-left.left (omega arith) (omega arith) in
    let fewer = ones-cleared _ c.loop-left.left lowest.1 lowest.2 in
    omega (arith, c.loop-left.invariant.count, c.requires.room, fewer)

pub loop-left-preserved : goal.loop-left-preserved
loop-left-preserved g c =
    let i = c.loop-left.invariant in
    let h = c.takes.ensures in
    let lowest = lowest_set c.loop-left.left (omega arith) (omega arith) in
    let fewer = ones-cleared _ c.loop-left.left lowest.1 lowest.2 in
    let value = rw (i.same, i.place) at h.value in
    let P : ℕ → Type 0 = λ j. IsTrue ((g.Self.Judge.table c.args.self.now).takes (63 * c.args.word + j)
    (g.Self.Judge.place c.args.self.now - 1)) in
    record {
      within = λ j s. i.within j ((IsBitSet-cleared _ c.loop-left.left lowest.1 lowest.2 j).0 s).0;
      took = took-more P c.args.asked c.loop-left.left c.loop-left.took c.if-takes.took _ lowest.1 lowest.2 i.within i.took
          (elim c.if-takes.branch [
            | then-takes w ↦ rw w.took-is (next-taken P c.loop-left.took _ lowest.0 (sym value ∙ w.if-takes.true))
            | else-takes w ↦ rw w.took-is (next-left P c.loop-left.took _ (λ p. absurd (false≢true (sym w.if-takes.false ∙ value ∙ p))))
          ]);
      count = omega (arith, h.count, i.count, fewer);
      place = cc;
      same = cc;
    }

pub loop-left-init : goal.loop-left-init
loop-left-init g c = record {
  within = λ j s. s;
  took = λ j lt. (λ s. absurd (s refl), λ h. absurd (h.1 h.0));
  count = refl;
  place = refl;
  same = refl;
}

pub overflow_cast-bit : goal.overflow_cast-bit
overflow_cast-bit g c = omega (arith, (lowest_set c.loop-left.left (omega arith) (omega arith)).0)

pub overflow_cast-took : goal.overflow_cast-took
overflow_cast-took g c = omega (arith, (lowest_set c.loop-left.left (omega arith) (omega arith)).0)

pub overflow_shl-took : goal.overflow_shl-took
overflow_shl-took g c = omega (arith, (lowest_set c.loop-left.left (omega arith) (omega arith)).0)

pub takes-requires-clause-stepped : goal.takes-requires-clause-stepped
takes-requires-clause-stepped g c = rw c.loop-left.invariant.place c.requires.stepped

pub loop-left-smaller : goal.loop-left-smaller
loop-left-smaller g c = omega (arith, and_le_r c.loop-left.left (c.loop-left.left - 1))

pub returns-clause-took : goal.returns-clause-took
returns-clause-took g c = λ j lt.
    let took = c.loop-left.invariant.took j lt in
    (λ s. let t = took.0 s in (t.0, t.2), λ h. took.1 (h.0, (λ s. (rw c.loop-left-test.false at s) refl), h.1))
