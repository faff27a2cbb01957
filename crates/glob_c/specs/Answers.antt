-- The numbers that calls return.
use Rattle.std.specs.Prelude.{ℕ, ◌==◌, nat_eq, if◌then◌else◌, Bool, [], ◌∷◌}
use Rattle.std.specs.List.{list_any}
use Rattle.glob_pattern.specs.Grammar.Faults.{Fault, message_of}
use Rattle.glob_pattern.specs.declared.error.PatternErrorKind.{PatternErrorKind}
use Rattle.glob_pattern.specs.declared.error.PatternErrorKind.TheVariants.{Wildcards, Recursive, Range}

-- the call succeeded
abbrev pub done : ℕ
done = 0

-- the pattern is not valid
abbrev pub syntax_fault : ℕ
syntax_fault = 1

-- an allocation failed
abbrev pub out_of_memory : ℕ
out_of_memory = 2

-- the bytes are not UTF-8
abbrev pub not_utf8 : ℕ
not_utf8 = 3

-- the buffer is too short
abbrev pub too_short : ℕ
too_short = 4

-- a flag has no meaning
abbrev pub unknown_flag : ℕ
unknown_flag = 5

-- the handle is not empty
abbrev pub in_use : ℕ
in_use = 6

-- the handle is empty
abbrev pub empty : ℕ
empty = 7

-- the walk did not ask for that
abbrev pub not_asked : ℕ
not_asked = 9

-- the text is not a name
abbrev pub no_name : ℕ
no_name = 10

-- the number may be returned for an entry of a walk
abbrev pub is_entry_answer : ℕ → Bool
is_entry_answer n = list_any (nat_eq n) (done ∷ out_of_memory ∷ not_utf8 ∷ not_asked ∷ no_name ∷ [])

-- the text does not match
abbrev pub no : ℕ
no = 0

-- the text matches
abbrev pub yes : ℕ
yes = 1

-- the kind with this number
abbrev pub kind_at : ℕ → PatternErrorKind
kind_at n = if n == 0 then Wildcards else if n == 1 then Recursive else Range

-- the fault at a place, with the number of its kind
abbrev pub fault_of : ℕ → ℕ → Fault
fault_of place number = record { place = place; message = message_of (kind_at number) }
