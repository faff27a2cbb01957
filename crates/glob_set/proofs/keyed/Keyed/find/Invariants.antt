-- The patterns before the number whose keys have the hash are found.
use Rattle.std.proofs.Common.{◌≡◌, ℕ, ◌-◌, ◌<◌, length, get_or, None, IsSomeAnd, All}
use Rattle.glob_set.specs.Private.Components.{slot_of}
use Rattle.glob_set.specs.Private.Keyed.{HasHash, Keeps, KeepsAll, key_slot}
use Rattle.glob_set.proofs.keyed.Keyed.find.Given as goal

abbrev pub invariant-loop-number : goal.invariant-loop-number
invariant-loop-number g l = record {
  within : All (λ k. k < length l.self) l.found.items;
  kept : KeepsAll l.fn.found l.found;
  here : l.number < length l.self
      → key_slot (get_or l.self l.number None) (length l.self-inside.first.items - 1) ≡ slot_of l.hash
      (length l.self-inside.first.items - 1);
  seen : (k : ℕ) → k < l.number → k < length l.self → IsSomeAnd (get_or l.self k None) (HasHash l.hash) → Keeps l.found k;
}

abbrev pub decreases-loop-number : goal.decreases-loop-number
decreases-loop-number g l = length l.self - l.number
