-- The characters with a meaning in patterns, besides `/` and `.`.
use Rattle.std.specs.Prelude.{ℕ, Bool, ◌||◌, ◌==◌}

-- `*`
abbrev pub star : ℕ
star = 42

-- `?`
abbrev pub question_mark : ℕ
question_mark = 63

-- `[`
abbrev pub open_bracket : ℕ
open_bracket = 91

-- `]`
abbrev pub close_bracket : ℕ
close_bracket = 93

-- `!`
abbrev pub exclamation_mark : ℕ
exclamation_mark = 33

-- `-`
abbrev pub hyphen : ℕ
hyphen = 45

-- `?`, `*` or `[`: a unit that begins with one is not a literal
abbrev pub is_wildcard : ℕ → Bool
is_wildcard c = c == question_mark || c == star || c == open_bracket
