use Rattle.std.proofs.Common.{refl}
use Rattle.glob_walk.proofs.WalkLemmas.Charging.{TurnsTo-memory, TurnsTo-said}
use Rattle.glob_walk.proofs.walker.Walker.take_look.Goals as goal

pub returns-in_default-clause-turn : goal.returns-in_default-clause-turn
returns-in_default-clause-turn g c = TurnsTo-said _ _ _ _ _ _ c.memory.ensures (TurnsTo-memory _ _ _ _ refl refl refl c.requires.idle.0)
