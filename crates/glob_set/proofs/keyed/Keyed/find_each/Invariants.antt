-- What is asked for before the bytes so far is found.
use Rattle.std.proofs.Common.{◌≡◌, ◌<◌, length, take, fold, All}
use Rattle.glob_set.specs.Private.Components.{after, start}
use Rattle.glob_set.proofs.TextKeys.{ComponentsFound}
use Rattle.glob_set.proofs.keyed.Keyed.find_each.Given as goal

abbrev pub invariant-loop-byte : goal.invariant-loop-byte
invariant-loop-byte g l = record {
  within : All (λ k. k < length l.self) l.found.items;
  read : l.component ≡ fold after start (take l.byte-index l.text);
  found : ComponentsFound l.self l.text l.byte-index l.found;
}
