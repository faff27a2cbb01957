-- The errors of copying records: their messages, and which is which.
use Rattle.std.specs.Prelude.{ℕ, List, codes, ⊤}
use Rattle.glob_lines.specs.declared.fault.LineFault.{LineFault}
use Rattle.glob_lines.specs.declared.fault.LineFault.TheVariants.{Read, Memory, Write}

-- what the error prints
abbrev pub words_of_line_fault : LineFault → List ℕ
words_of_line_fault (Read e) = codes "reading failed"
words_of_line_fault Memory = codes "out of memory"
words_of_line_fault (Write e) = codes "writing failed"

-- a read failed
abbrev pub IsRead : LineFault → Type 0
IsRead (Read e) = ⊤
IsRead Memory = ⊥
IsRead (Write e) = ⊥

-- an allocation failed
abbrev pub IsMemory : LineFault → Type 0
IsMemory (Read e) = ⊥
IsMemory Memory = ⊤
IsMemory (Write e) = ⊥

-- a write failed
abbrev pub IsWrite : LineFault → Type 0
IsWrite (Read e) = ⊥
IsWrite Memory = ⊥
IsWrite (Write e) = ⊤
