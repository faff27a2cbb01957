-- Texts with their control characters escaped.
use Rattle.std.specs.Prelude.{ℕ, ◌==◌, ◌||◌, ◌&&◌, Bool, List, [], ◌∷◌, ◌++◌, false, true, if◌then◌else◌, chars, codes}
use Rattle.std.specs.Prelude.{encode_utf8, nat_le, nat_lt, replicate, take}
use Rattle.std.specs.Char.{is_control}
use Rattle.std.specs.Fmt.{digits}
use Rattle.std.specs.List.{flat_map}
use Rattle.glob_text.specs.Text.{Text}
use Rattle.globs.specs.declared.wide.TheConstants.{WIDE}

-- a backslash and a letter
abbrev pub escape : (letter : ℕ) → Text
escape letter = 92 ∷ letter ∷ []

-- what is printed for a character: for a control character an escape (`\t`, `\n`, `\r`, or one like `\u{1b}`), and for
-- any other character itself
abbrev pub visible_character : ℕ → Text
visible_character c =
    if c == 9 then escape 116
    else (if c == 10 then escape 110
    else (if c == 13 then escape 114
    else (if is_control c then escape 117 ++ 123 ∷ digits 16 false c ++ 125 ∷ [] else encode_utf8 c)))

-- what is printed for a text
abbrev pub visible : Text → Text
visible text = flat_map visible_character (chars text)

-- the character is from the first of a range to the last
abbrev pub is_within : ℕ → (range : ℕ × ℕ) → Bool
is_within c range = nat_le range.0 c && nat_le c range.1

-- the character is in one of the ranges
abbrev pub is_among : ℕ → (ranges : List (ℕ × ℕ)) → Bool
is_among c [] = false
is_among c (range ∷ ranges) = if is_within c range then true else is_among c ranges

-- a terminal shows the character in two columns
unfoldable pub is_wide : ℕ → Bool
is_wide c = is_among c WIDE

-- how many columns a character takes: one, two if it is wide, or the length of its escape for a control character
abbrev pub width : ℕ → ℕ
width c =
    if c == 9 || (c == 10 || c == 13) then 2
    else (if nat_lt c 16 then 5
    else (if is_control c then 6
    else (if is_wide c then 2 else 1)))

-- blanks as wide as the first characters
abbrev pub indent : Text → (characters : ℕ) → Text
indent text characters = flat_map (λ c. replicate (width c) 32) (take characters (chars text))

-- a text, and below it a caret under the character at index `column`
abbrev pub caret_lines : Text → (column : ℕ) → Text
caret_lines text column = visible text ++ 10 ∷ indent text column ++ codes "^"
