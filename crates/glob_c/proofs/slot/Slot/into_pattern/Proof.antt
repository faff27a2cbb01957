-- A slot with a pattern gives back its box.
use base.Logic.{emp, id⊢}
use contract.Monad.{fact_i}
use Rattle.glob_c.proofs.SlotBoxes.{into_meets}
use Rattle.glob_c.proofs.SlotValues.{a_pattern}
use Rattle.glob_c.specs.contracts.slot.Slot.into_pattern.{clauses}
use Rattle.glob_c.specs.contracts.slot.Slot.into_pattern.Key.{name}
use Rattle.glob_c.proofs.slot.Slot.into_pattern.Statement.{statement}
use Rattle.glob_c.proofs.slot.Slot.into_pattern.Code.{unfolded}

pub into_pattern_spec : {M : Type 1} → statement M
into_pattern_spec 𝓤 𝓛 𝓜 𝓡 wired =
    into_meets 𝓤 𝓛 𝓜 𝓡 a_pattern name (clauses 𝓛 𝓜.mem 𝓡.returns) (λ s a g. id⊢ 𝓤 _) (λ s a g x there. fact_i 𝓤 _
    (emp 𝓤) there) (unfolded 𝓤 𝓛.H 𝓜 𝓡 wired)
