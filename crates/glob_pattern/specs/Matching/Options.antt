-- Match options: the two presets, and options written as letters or bits.
use Rattle.std.specs.Prelude.{ℕ, ◌==◌, true, false, if◌then◌else◌, Option, None, Some, List, [], ◌∷◌, option_and_then, bit_and}
use Rattle.glob_pattern.specs.declared.options.MatchOptions.{MatchOptions}

-- case-sensitive, with neither rule
abbrev pub new_options : MatchOptions
new_options = record {
  case_sensitive = true;
  require_literal_separator = false;
  require_literal_leading_dot = false;
}

-- case-insensitive, with neither rule
abbrev pub default_options : MatchOptions
default_options = record new_options { case_sensitive = false }

-- the options plus the one for a letter: `i` is case-insensitive, `s` the separator rule, `d` the dot rule
abbrev pub with_letter : (letter : ℕ) → MatchOptions → Option MatchOptions
with_letter letter o =
    if letter == 105 then Some (record o { case_sensitive = false })
    else if letter == 115 then Some (record o { require_literal_separator = true })
    else if letter == 100 then Some (record o { require_literal_leading_dot = true })
    else None

-- the options plus those for the letters
abbrev pub with_letters : (letters : List ℕ) → MatchOptions → Option MatchOptions
with_letters [] o = Some o
with_letters (l ∷ ls) o = option_and_then (with_letters ls) (with_letter l o)

-- the options for three bits: 1 is case-insensitive, 2 the separator rule, 4 the dot rule
abbrev pub options_of_bits : (bits : ℕ) → MatchOptions
options_of_bits bits = record {
  case_sensitive = bit_and bits 1 == 0;
  require_literal_separator = bit_and bits 2 == 2;
  require_literal_leading_dot = bit_and bits 4 == 4;
}
