-- How long an escaped text is.
use Rattle.std.specs.Prelude.{◌≡◌, ℕ, List, chars, length}
use Rattle.glob_text.specs.Text.{Text}
use Rattle.glob_pattern.specs.Escaping.{escaped_text}

-- the escaped text has n bytes
abbrev pub IsLengthOfEscaped : Text → ℕ → Type 0
IsLengthOfEscaped text n = (bytes : List ℕ) × (chars bytes ≡ escaped_text text) × (length bytes ≡ n)
