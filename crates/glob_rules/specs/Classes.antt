-- The character classes of a bracket, as in `[[:digit:]_]`: git's classes, ASCII only.
use Rattle.std.specs.Char.{is_ascii_alphabetic, is_ascii_alphanumeric, is_ascii_control, is_ascii_digit}
use Rattle.std.specs.Char.{is_ascii_graphic, is_ascii_hexdigit, is_ascii_lowercase, is_ascii_punctuation}
use Rattle.std.specs.Char.{is_ascii_uppercase}
use Rattle.std.specs.Prelude.{ℕ, ◌-◌, Bool, ◌&&◌, ◌||◌, nat_le, ◌==◌, if◌then◌else◌, length, take, drop, Option, Some}
use Rattle.std.specs.Prelude.{None, codes, bytes_eq}
use Rattle.std.specs.List.{before_first}
use Rattle.glob_text.specs.Text.{Text, has}
use Rattle.glob_pattern.specs.Grammar.Characters.{close_bracket}
use Rattle.glob_rules.specs.declared.classes.Class.{Class}
use Rattle.glob_rules.specs.declared.classes.Class.TheVariants.{Alnum, Alpha, Blank, Cntrl, Digit, Graph, Lower, Print}
use Rattle.glob_rules.specs.declared.classes.Class.TheVariants.{Punct, Space, Upper, Xdigit}

-- `:`
abbrev pub colon : ℕ
colon = 58

-- whether the character c is in the class
abbrev pub class_has : Class → ℕ → Bool
class_has Alnum c = is_ascii_alphanumeric c
class_has Alpha c = is_ascii_alphabetic c
class_has Blank c = c == 9 || c == 32
class_has Cntrl c = is_ascii_control c
class_has Digit c = is_ascii_digit c
class_has Graph c = is_ascii_graphic c
class_has Lower c = is_ascii_lowercase c
class_has Print c = c == 32 || is_ascii_graphic c
class_has Punct c = is_ascii_punctuation c
class_has Space c = c == 9 || c == 10 || c == 13 || c == 32
class_has Upper c = is_ascii_uppercase c
class_has Xdigit c = is_ascii_hexdigit c

-- the class with this name, if there is one
unfoldable pub class_named : (name : Text) → Option Class
class_named name =
    if bytes_eq name (codes "alnum") then Some Alnum
    else if bytes_eq name (codes "alpha") then Some Alpha
    else if bytes_eq name (codes "blank") then Some Blank
    else if bytes_eq name (codes "cntrl") then Some Cntrl
    else if bytes_eq name (codes "digit") then Some Digit
    else if bytes_eq name (codes "graph") then Some Graph
    else if bytes_eq name (codes "lower") then Some Lower
    else if bytes_eq name (codes "print") then Some Print
    else if bytes_eq name (codes "punct") then Some Punct
    else if bytes_eq name (codes "space") then Some Space
    else if bytes_eq name (codes "upper") then Some Upper
    else if bytes_eq name (codes "xdigit") then Some Xdigit
    else None

-- the text before its first `]`, or all of it if it has none
abbrev pub before_close : Text → Text
before_close text = before_first (λ c. c == close_bracket) text

-- whether the text is a name between two colons, as in `:digit:`
abbrev pub is_between_colons : Text → Bool
is_between_colons text = nat_le 2 (length text) && has text 0 colon && has text (length text - 1) colon

-- the name between the colons
abbrev pub without_colons : Text → Text
without_colons text = take (length text - 2) (drop 1 text)
