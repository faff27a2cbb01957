use Rattle.std.proofs.Common.{◌≡◌, ℕ, ◌+◌, ◌<◌, ◌≤◌, length, get_or}
use Rattle.glob_pattern.proofs.ClassLemmas.Ranks.{rank}
use Rattle.glob_pattern.proofs.pattern.classes.counts_from.Given as goal

abbrev pub invariant-loop-n : goal.invariant-loop-n
invariant-loop-n g l = record {
  passed : (k : ℕ) → k < l.n → length l.counts.items < 128 → get_or l.boundaries k 0 ≤ l.base + length l.counts.items;
  counts : (j : ℕ) → j < length l.counts.items → get_or l.counts.items j 0 ≡ rank l.boundaries (l.base + j);
}
