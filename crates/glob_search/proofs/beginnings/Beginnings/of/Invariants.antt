use Rattle.std.proofs.Common.{ℕ, ◌<◌, [], get_or, map, take}
use Rattle.glob_set.specs.BraceSets.{AreAccepted}
use Rattle.glob_search.specs.Refusals.{readings}
use Rattle.glob_search.specs.Private.Nodes.{AreBeginnings}
use Rattle.glob_search.proofs.beginnings.Beginnings.of.Given as goal

abbrev pub invariant-loop-number : goal.invariant-loop-number
invariant-loop-number g l = record {
  begins : AreBeginnings l.fn.options (map (λ p. p.now) (take l.number l.fn.patterns)) l.beginnings;
  accepted : (k : ℕ) → k < l.number → AreAccepted (readings (get_or (map (λ p. p.now) l.fn.patterns) k []));
}
