-- What was written before an error: the first records, or the first bytes.
use Rattle.std.specs.Prelude.{ℕ, List, Option, take}
use Rattle.std.specs.List.{flat_map}
use Rattle.std.specs.Io.KnownBytes.{Appends}
use Rattle.glob_lines.specs.Lines.{records_of, AppendsFront, AreKept}

-- whichever records satisfy P, what `write` gives was written for the first n of them, for some n
abbrev pub WritesFrontRecords : (end : ℕ) → (write : List ℕ → List ℕ) → (P : List ℕ → Type 0) → (input : List ℕ) →
    (old new : Option (List ℕ)) → Type 0
WritesFrontRecords end write P input old new =
    (kept : List (List ℕ)) → AreKept P (records_of end input) kept → (n : ℕ) × Appends old new (flat_map write (take n kept))

-- the same for these bytes
abbrev pub WritesFrontBytes : (end : ℕ) → (write : List ℕ → List ℕ) → (P : List ℕ → Type 0) → (input : List ℕ) →
    (old new : Option (List ℕ)) → Type 0
WritesFrontBytes end write P input old new =
    (kept : List (List ℕ)) → AreKept P (records_of end input) kept → AppendsFront old new (flat_map write kept)
