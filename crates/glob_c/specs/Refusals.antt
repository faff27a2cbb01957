-- Why bytes are refused as a pattern.
use Rattle.std.specs.Prelude.{ℕ, ◌≤◌, List, IsUtf8, chars, ⊤}
use Rattle.glob_pattern.specs.Grammar.Faults.{IsFault, kind_of, number_of}
use Rattle.glob_pattern.specs.declared.error.PatternRefusal.{PatternRefusal}
use Rattle.glob_pattern.specs.declared.error.PatternRefusal.TheVariants as pattern
use Rattle.glob_c.specs.Answers.{fault_of}
use Rattle.glob_c.specs.declared.fault.Refusal.{Refusal}
use Rattle.glob_c.specs.declared.fault.Refusal.TheVariants.{Syntax, Memory, NotUtf8}

-- the refusal is the fault of the bytes, a failed allocation, or says that the bytes are not UTF-8
abbrev pub RefusesBytes : List ℕ → Refusal → Type 0
RefusesBytes bytes (Syntax f) = IsUtf8 bytes × IsFault (chars bytes) (fault_of f.place f.message) × (f.message ≤ 2)
RefusesBytes bytes Memory = ⊤
RefusesBytes bytes NotUtf8 = ¬ (IsUtf8 bytes)

-- a pattern's refusal, with the number of its fault's kind
abbrev pub refusal_of : PatternRefusal → Refusal
refusal_of (pattern.Syntax e) = Syntax (record { place = e.pos; message = number_of (kind_of e.msg.now) })
refusal_of pattern.Memory = Memory
