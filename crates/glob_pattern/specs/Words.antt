-- The printed texts of errors.
use Rattle.std.specs.Prelude.{ℕ, List, ◌++◌, codes, decimal}
use Rattle.glob_pattern.specs.declared.error.PatternError.{PatternError}
use Rattle.glob_pattern.specs.declared.error.PatternRefusal.{PatternRefusal}
use Rattle.glob_pattern.specs.declared.error.PatternRefusal.TheVariants as refusal

-- for a failed allocation
abbrev pub out_of_memory : List ℕ
out_of_memory = codes "out of memory"

-- for a fault of a pattern: its place, in characters from 0, and its message
abbrev pub pattern_error_words : PatternError → List ℕ
pattern_error_words e =
    codes "Pattern syntax error near position " ++ decimal e.pos ++ codes ": " ++ e.msg.now

-- for a refusal
abbrev pub refusal_words : PatternRefusal → List ℕ
refusal_words (refusal.Syntax e) = pattern_error_words e
refusal_words refusal.Memory = out_of_memory
