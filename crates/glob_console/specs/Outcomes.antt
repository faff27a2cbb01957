-- How a run ends: its status, and what was added to its output.
use Rattle.std.specs.Prelude.{◌≡◌, ℕ, ◌⊎◌, List, Option}
use Rattle.std.specs.Io.KnownBytes.{Appends}
use Rattle.glob_lines.specs.Lines.{AppendsFront}

-- a fault before anything was written to the output
abbrev pub IsRefused : {W : Type 0} → (old new : W) → (status : ℕ) → Type 0
IsRefused old new status = (status ≡ 2) × (new ≡ old)

-- Status 0: these bytes were written. Status 2: the first n of them were written, for some n. There is no other status.
unfoldable pub WritesText : (text : List ℕ) → (old new : Option (List ℕ)) → (status : ℕ) → Type 0
WritesText text old new status = ((status ≡ 0) × Appends old new text) ⊎ ((status ≡ 2) × AppendsFront old new text)
