-- Bytes that are read and appended to others.
use Rattle.std.specs.Prelude.{◌≡◌, ◌++◌, ℕ, List, Option}
use Rattle.std.specs.Io.KnownBytes.{Consumes}

-- what was read was appended to the bytes
abbrev pub Gathers : (left rest : Option (List ℕ)) → (old new : List ℕ) → Type 0
Gathers left rest old new = (read : List ℕ) × Consumes left rest read × (new ≡ old ++ read)
