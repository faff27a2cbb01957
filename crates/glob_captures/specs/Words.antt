-- The messages of errors.
use Rattle.std.specs.Prelude.{ℕ, List, codes}
use Rattle.glob_captures.specs.declared.error.CapturesError.{CapturesError}
use Rattle.glob_captures.specs.declared.error.CapturesError.TheVariants.{TooLarge, Memory}

-- the message of an error
abbrev pub captures_error_words : CapturesError → List ℕ
captures_error_words TooLarge = codes "the pattern's tokens times the text's bytes are more than 67108864"
captures_error_words Memory = codes "out of memory"
