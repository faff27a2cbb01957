-- What contracts see of a `Watch`.
use Rattle.std.specs.Prelude.{Bool}

-- a reader or writer, and whether one of its calls has failed
pub record Watched (S : Type 0) : Type 0 where
  pub inner : S
  pub failed : Bool
