-- Places where nothing is alive.
use Rattle.std.proofs.Common.{◌≡◌, ℕ, zero, suc, ◌+◌, ◌<◌, ◌≤◌, List, length, subst, inl, inr, ⊎_elim, arith}
use Rattle.glob_pattern.specs.Matching.Splits.{Table}
use Rattle.glob_pattern.specs.Private.Prefixes.{HasTaken, IsAnyAlive}
use Rattle.glob_pattern.proofs.PositionLemmas.Alive.{IsAlive-step, IsAnyAlive-before, PrefixSplits-none, none_whole}
use Rattle.glob_pattern.specs.declared.matcher.Shape.{Shape}

module _ (table : Table) (shapes : List Shape) (end : ℕ) (within : end ≤ length shapes) where
  -- if no token has taken a character, nothing is alive after it
  pub dead-from_none : (k : ℕ) → ((n : ℕ) → n < end → ¬ (HasTaken table shapes n (suc k))) → ¬ (IsAnyAlive table shapes end (suc k))
  dead-from_none k none (inl (n, lt, alive)) =
      ⊎_elim
      (none_whole table shapes (suc k) 0 n (omega arith) (omega (arith, lt, within)) (PrefixSplits-none table shapes (suc k) (omega arith))
      (λ t from below. none t (omega (arith, below, lt))))
      (λ (t, grows). none n lt t)
      ((IsAlive-step table shapes n (suc k)).0 alive)
  dead-from_none k none (inr whole) =
      none_whole table shapes (suc k) 0 end (omega arith) within (PrefixSplits-none table shapes (suc k) (omega arith))
      (λ t from below. none t below) whole

  -- if nothing is alive, nothing is later
  pub dead-later : (m k : ℕ) → ¬ (IsAnyAlive table shapes end k) → ¬ (IsAnyAlive table shapes end (m + k))
  dead-later zero k none any = none (let e : zero + k ≡ k = omega arith in subst (IsAnyAlive table shapes end) e any)
  dead-later (suc m) k none any =
      let e : suc m + k ≡ suc (m + k) = omega arith in
      dead-later m k none (IsAnyAlive-before table shapes end (m + k) within (subst (IsAnyAlive table shapes end) e any))
