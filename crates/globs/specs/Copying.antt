-- The outcome of copying or rewriting records: its status, and what its output gained.
use Rattle.std.specs.Prelude.{◌≡◌, ◌≢◌, ℕ, ◌<◌, Bool, false, List, Option, IsTrue}
use Rattle.std.specs.Io.KnownBytes.{IsAtEnd}
use Rattle.glob_lines.specs.Lines.{Rewrites, RewritesBytes, RewritesWhole, ended_record}
use Rattle.glob_lines.specs.Watch.{Watched}

-- the known input before and after a run, and whether a read of it failed
pub record Input : Type 0 where
  pub before : Option (List ℕ)
  pub after : Option (List ℕ)
  pub failed : Bool

-- the input of a run over a reader
abbrev pub input_of : {R : Type 0} → (remaining : R → Option (List ℕ)) → (old new : Watched R) → Input
input_of remaining old new =
    record { before = remaining old.inner; after = remaining new.inner; failed = new.failed }

-- no input was read
abbrev pub IsUnread : Input → Type 0
IsUnread input = (input.failed ≡ false) × (input.after ≡ input.before)

-- Status 0: records are selected, and exactly what `write` gives for them was written, in order. Status 1: no record is
-- selected, and nothing was written. In both cases all input was read. Status 2: the first n bytes of this output were
-- written, for some n. After a failed read, the status is 2, and exactly what `write` gives for the selected records
-- that were read to their end was written.
unfoldable pub WritesSelected : (end : ℕ) → (selects : List ℕ → Bool) → (write : List ℕ → List ℕ) → Input
    → (old new : Option (List ℕ)) → (status : ℕ) → Type 0
WritesSelected end selects write input old new status =
    (status ≡ 0 → (n : ℕ) × (0 < n) × Rewrites end selects write input.before old new n)
    × (status ≡ 1 → Rewrites end selects write input.before old new 0)
    × (status ≢ 2 → IsAtEnd input.after)
    × (status ≡ 2 → RewritesBytes end selects write input.before old new)
    × (IsTrue input.failed → (status ≡ 2) × RewritesWhole end selects write input.before input.after old new)

-- the same for records that are written as they are, each with its end
abbrev pub Copies : (end : ℕ) → (selects : List ℕ → Bool) → Input → (old new : Option (List ℕ)) → (status : ℕ) → Type 0
Copies end selects input old new status = WritesSelected end selects (ended_record end) input old new status
