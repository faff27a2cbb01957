use Rattle.std.proofs.Common.{◌≡◌, ℕ, ◌+◌, ◌-◌, ◌*◌, ◌<◌, ◌↔◌, IsTrue, count_ones}
use Rattle.std.specs.Int.{IsBitSet}
use Rattle.glob_pattern.proofs.matcher.Judge.takes_each.Given as goal

abbrev pub invariant-loop-left : goal.invariant-loop-left
invariant-loop-left g l = record {
  within : (j : ℕ) → IsBitSet l.left j → IsBitSet l.asked j;
  took : (j : ℕ) → j < 64 → IsBitSet l.took j ↔ (IsBitSet l.asked j × (IsBitSet l.left j → ⊥) × IsTrue
      ((g.Self.Judge.table l.fn.self).takes (63 * l.word + j) (g.Self.Judge.place l.fn.self - 1)));
  count : g.Self.Judge.count l.self + count_ones l.left ≡ g.Self.Judge.count l.fn.self + count_ones l.asked;
  place : g.Self.Judge.place l.self ≡ g.Self.Judge.place l.fn.self;
  same : g.Self.Judge.table l.self ≡ g.Self.Judge.table l.fn.self;
}

abbrev pub decreases-loop-left : goal.decreases-loop-left
decreases-loop-left g l = l.left
