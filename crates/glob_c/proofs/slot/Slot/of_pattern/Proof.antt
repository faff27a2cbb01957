-- A slot is made from the box of a pattern.
use Rattle.std.proofs.Common.{refl}
use base.Logic.{emp}
use contract.Monad.{fact_i}
use Rattle.glob_c.proofs.SlotBoxes.{of_meets}
use Rattle.glob_c.proofs.SlotValues.{a_pattern}
use Rattle.glob_c.specs.contracts.slot.Slot.of_pattern.{clauses}
use Rattle.glob_c.specs.contracts.slot.Slot.of_pattern.Key.{name}
use Rattle.glob_c.proofs.slot.Slot.of_pattern.Statement.{statement}
use Rattle.glob_c.proofs.slot.Slot.of_pattern.Code.{unfolded}

pub of_pattern_spec : {M : Type 1} → statement M
of_pattern_spec 𝓤 𝓛 𝓜 𝓡 wired =
    of_meets 𝓤 𝓛 𝓜 𝓡 a_pattern name (clauses 𝓛 𝓜.mem 𝓡.returns) (λ x g p. fact_i 𝓤 _ (emp 𝓤) (refl, refl)) (unfolded 𝓤 𝓛.H 𝓜 𝓡 wired)
