-- The words of a command line that all programs share.
use Rattle.std.specs.Prelude.{ℕ, ◌^◌, ◌==◌, ◌&&◌, Bool, false, [], ◌∷◌, Option, None, Some, if◌then◌else◌, is_some}
use Rattle.std.specs.Prelude.{unwrap_or, length, nat_lt, nat_le}
use Rattle.std.specs.List.{list_all}
use Rattle.std.specs.Char.{is_ascii_digit}
use Rattle.std.specs.Str.Parse.{digits_value}
use Rattle.glob_text.specs.Text.{Text}
use Rattle.glob_pattern.specs.Matching.Options.{with_letter}
use Rattle.glob_pattern.specs.declared.options.MatchOptions.{MatchOptions}

-- a word that begins with a hyphen
abbrev pub is_option : Text → Bool
is_option [] = false
is_option (c ∷ cs) = c == 45

-- one to twenty decimal digits, for a number that fits into 64 bits
abbrev pub is_limit : Text → Bool
is_limit word =
    nat_lt 0 (length word)
    && (nat_le (length word) 20 && (list_all is_ascii_digit word && nat_lt (digits_value 10 word) (2 ^ 64)))

-- the number in such a word
abbrev pub limit_of : Text → Option ℕ
limit_of word = if is_limit word then Some (digits_value 10 word) else None

-- the options, plus the one that the word sets: a hyphen and the letter of a match option
abbrev pub option_set : Text → MatchOptions → Option MatchOptions
option_set [] options = None
option_set (dash ∷ []) options = None
option_set (dash ∷ letter ∷ []) options = if dash == 45 then with_letter letter options else None
option_set (dash ∷ letter ∷ more ∷ rest) options = None

-- the word sets a match option
abbrev pub is_match_option : MatchOptions → Text → Bool
is_match_option options word = is_some (option_set word options)

-- the options after the word, which may set one
abbrev pub with_option : Text → MatchOptions → MatchOptions
with_option word options = unwrap_or (option_set word options) options
