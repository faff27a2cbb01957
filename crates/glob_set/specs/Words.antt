-- The printed texts of errors.
use Rattle.std.specs.Prelude.{ℕ, List, ◌++◌, codes, decimal}
use Rattle.glob_pattern.specs.Words.{out_of_memory, pattern_error_words}
use Rattle.glob_set.specs.declared.error.BraceSetRefusal.{BraceSetRefusal}
use Rattle.glob_set.specs.declared.error.BraceSetRefusal.TheVariants as set
use Rattle.glob_set.specs.declared.error.SetRefusal.{SetRefusal}
use Rattle.glob_set.specs.declared.error.SetRefusal.TheVariants.{Syntax, Memory}
use Rattle.glob_set.specs.declared.braces.error.BraceError.{BraceError}
use Rattle.glob_set.specs.declared.braces.error.BraceError.TheVariants.{Unmatched, Unclosed, TooMany}
use Rattle.glob_set.specs.declared.braces.error.BraceRefusal.{BraceRefusal}
use Rattle.glob_set.specs.declared.braces.error.BraceRefusal.TheVariants as refusal

-- for a refusal of texts
abbrev pub refusal_words : SetRefusal → List ℕ
refusal_words (Syntax number e) = codes "pattern " ++ decimal number ++ codes ": " ++ pattern_error_words e
refusal_words Memory = out_of_memory

-- for a fault of braces
abbrev pub brace_error_words : BraceError → List ℕ
brace_error_words (Unmatched place) = codes "no `{` before the `}` at position " ++ decimal place
brace_error_words (Unclosed place) = codes "no `}` after the `{` at position " ++ decimal place
brace_error_words TooMany = codes "more than 1000 alternatives"

-- for a refusal of braces
abbrev pub brace_refusal_words : BraceRefusal → List ℕ
brace_refusal_words (refusal.Syntax fault) = brace_error_words fault
brace_refusal_words refusal.Memory = out_of_memory

-- for a refusal of texts with braces
abbrev pub brace_set_refusal_words : BraceSetRefusal → List ℕ
brace_set_refusal_words (set.Braces number fault) =
    codes "pattern " ++ decimal number ++ codes ": " ++ brace_error_words fault
brace_set_refusal_words (set.Pattern number alternative e) =
    codes "pattern " ++ decimal number ++ codes ", alternative " ++ decimal alternative ++ codes ": "
    ++ pattern_error_words e
brace_set_refusal_words set.Memory = out_of_memory
