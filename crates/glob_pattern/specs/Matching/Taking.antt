-- Which token takes which character under the options.
use Rattle.std.specs.Prelude.{ℕ, Bool, ◌&&◌, ◌||◌, not, ◌==◌}
use Rattle.glob_text.specs.Characters.{slash, dot}
use Rattle.glob_pattern.specs.Grammar.Brackets.{is_same, holds}
use Rattle.glob_pattern.specs.Grammar.Tokens.{Token}
use Rattle.glob_pattern.specs.declared.options.MatchOptions.{MatchOptions}
use Rattle.glob_pattern.specs.declared.token.Token.TheVariants.{Literal, AnyChar, AnySequence, Recursive, OneOf, NoneOf}

-- the separator rule is set and excludes c from wildcards, since it is a `/`
abbrev pub is_excluded_separator : MatchOptions → ℕ → Bool
is_excluded_separator o c = o.require_literal_separator && c == slash

-- the dot rule is set and excludes c from wildcards, since it is a `.` at a component start
abbrev pub is_excluded_dot : MatchOptions → (opening : Bool) → ℕ → Bool
is_excluded_dot o opening c = o.require_literal_leading_dot && opening && c == dot

-- a rule is set
abbrev pub has_rules : MatchOptions → Bool
has_rules o = o.require_literal_separator || o.require_literal_leading_dot

-- no rule excludes c from wildcards
abbrev pub is_free : MatchOptions → (opening : Bool) → ℕ → Bool
is_free o opening c = not (is_excluded_separator o c) && not (is_excluded_dot o opening c)

-- the token takes the character c; `opening`: a component begins at its place
abbrev pub takes : MatchOptions → (opening : Bool) → ℕ → Token → Bool
takes o opening c (Literal x) = is_same o.case_sensitive c x
takes o opening c AnyChar = is_free o opening c
takes o opening c AnySequence = is_free o opening c
takes o opening c Recursive = not (is_excluded_dot o opening c)
takes o opening c (OneOf entries) = is_free o opening c && holds o.case_sensitive c entries
takes o opening c (NoneOf entries) = is_free o opening c && not (holds o.case_sensitive c entries)
