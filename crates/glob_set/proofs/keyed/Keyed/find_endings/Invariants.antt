-- What is asked for by fewer last bytes is found.
use Rattle.std.proofs.Common.{◌≡◌, ℕ, ◌-◌, ◌<◌, ◌≤◌, length, drop, All}
use Rattle.glob_set.specs.Private.Keyed.{Finds, KeepsAll}
use Rattle.glob_set.specs.Private.Keys.{hash_back}
use Rattle.glob_set.proofs.TextKeys.{IsReadBehind}
use Rattle.glob_set.proofs.keyed.Keyed.find_endings.Given as goal

abbrev pub invariant-loop-len : goal.invariant-loop-len
invariant-loop-len g l = record {
  few : l.len ≤ l.self-inside.kinds.longest;
  fits : l.len ≤ length l.text;
  within : All (λ k. k < length l.self) l.found.items;
  kept : KeepsAll l.fn.found l.found;
  read : l.hash ≡ hash_back (drop (length l.text - l.len) l.text);
  found : (len : ℕ) → len < l.len → Finds l.self (IsReadBehind l.text len) l.found;
}

abbrev pub decreases-loop-len : goal.decreases-loop-len
decreases-loop-len g l = length l.text - l.len
