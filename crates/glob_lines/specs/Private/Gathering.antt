-- The output buffer, which gathers bytes until it is full.
use Rattle.std.specs.Prelude.{◌≡◌, ℕ, ◌⊎◌, List, [], Option}
use Rattle.std.specs.Io.KnownBytes.{Appends, Keeps}

-- the buffer waits, or it was written completely and is empty
abbrev pub IsGathered : (output output' : List ℕ) → (old new : Option (List ℕ)) → Type 0
IsGathered output output' old new =
    (Keeps old new × (output' ≡ output)) ⊎ (Appends old new output × (output' ≡ []))
