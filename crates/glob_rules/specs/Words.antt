-- The messages of errors.
use Rattle.std.specs.Prelude.{ℕ, List, ◌++◌, codes, decimal}
use Rattle.glob_pattern.specs.Words.{out_of_memory}
use Rattle.glob_rules.specs.declared.error.Reason.{Reason}
use Rattle.glob_rules.specs.declared.error.Reason.TheVariants.{BeyondAscii, UnknownClass, StarsBehindText, Nul, Pattern}
use Rattle.glob_rules.specs.declared.error.RuleRefusal.{RuleRefusal}
use Rattle.glob_rules.specs.declared.error.RuleRefusal.TheVariants.{Line, Memory}

-- the message of a reason
abbrev pub reason_words : Reason → List ℕ
reason_words BeyondAscii = codes "a bracket names a character beyond ASCII"
reason_words UnknownClass = codes "a bracket has an unknown class of characters"
reason_words StarsBehindText = codes "`**` is not a whole component"
reason_words Nul = codes "the line has a NUL"
reason_words Pattern = codes "the translation is no pattern"

-- the message of an error
abbrev pub refusal_words : RuleRefusal → List ℕ
refusal_words (Line n reason) = codes "line " ++ decimal n ++ codes ": " ++ reason_words reason
refusal_words Memory = out_of_memory
