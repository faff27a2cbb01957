-- A line of an ignore list: a comment, a blank line, or a rule, with its leading `!` and its trailing `/`.
use Rattle.std.specs.Prelude.{ℕ, ◌+◌, ◌-◌, Bool, false, ◌&&◌, ◌||◌, not, ◌==◌, if◌then◌else◌, [], ◌++◌, length, take, drop}
use Rattle.std.specs.List.{fold, list_any}
use Rattle.glob_text.specs.Characters.{slash}
use Rattle.glob_text.specs.Text.{Text, has}
use Rattle.glob_pattern.specs.Grammar.Characters.{exclamation_mark}
use Rattle.glob_rules.specs.Steps.{backslash}
use Rattle.glob_rules.specs.Readings.{Read, reading_of, outcome, ending}
use Rattle.glob_rules.specs.declared.reading.Outcome.{Outcome}
use Rattle.glob_rules.specs.declared.reading.Outcome.TheVariants.{Nothing}

-- `#`
abbrev pub hash : ℕ
hash = 35

-- CR
abbrev pub carriage_return : ℕ
carriage_return = 13

-- the space, U+0020
abbrev pub blank : ℕ
blank = 32

-- the last byte is c
abbrev pub ends_in : Text → ℕ → Bool
ends_in text c = has text (length text - 1) c

-- the text without a leading c
abbrev pub without_first : Text → ℕ → Text
without_first text c = if has text 0 c then drop 1 text else text

-- the text without a trailing c
abbrev pub without_last : Text → ℕ → Text
without_last text c = if ends_in text c then take (length text - 1) text else text

-- A scan for trailing spaces: the bytes read, the bytes up to the last one to keep, and whether the next byte is
-- escaped.
pub record Kept : Type 0 where
  pub seen : ℕ
  pub kept : ℕ
  pub escaped : Bool

-- after one more byte c, which is kept unless it is an unescaped space
abbrev pub next_kept : Kept → ℕ → Kept
next_kept k c = record {
  seen = k.seen + 1;
  kept = if k.escaped || not (c == blank) then k.seen + 1 else k.kept;
  escaped = not k.escaped && c == backslash;
}

-- before the first byte
abbrev pub none_kept : Kept
none_kept = record { seen = 0; kept = 0; escaped = false }

-- after all of a text
unfoldable pub kept_of : Text → Kept
kept_of text = fold next_kept none_kept text

-- the text without its unescaped trailing spaces
abbrev pub without_blanks : Text → Text
without_blanks text = take (kept_of text).kept text

-- the rule of a line as it is written: without its CR and its trailing spaces
abbrev pub kept_line : Text → Text
kept_line text = without_blanks (without_last text carriage_return)

-- a line as read: its outcome, whether its rule begins with `!`, whether it ends in `/`, and its pattern
pub record Line : Type 0 where
  pub outcome : Outcome
  pub negative : Bool
  pub directories : Bool
  pub glob : Text

-- a line that matches nothing
abbrev pub nothing : Line
nothing = record { outcome = Nothing; negative = false; directories = false; glob = [] }

-- the line of a rule that was translated to r
abbrev pub line_of_reading : (negative directories : Bool) → Read → Line
line_of_reading negative directories r = record {
  outcome = outcome r.mode;
  negative = negative;
  directories = directories;
  glob = r.glob ++ ending r.mode;
}

-- whether the text has a separator
abbrev pub is_path : Text → Bool
is_path text = list_any (λ c. c == slash) text

-- The line of a rule without its `!` and its last `/`. A separator ties the rule to the list's own directory; a leading
-- one does nothing else.
unfoldable pub line_of_body : (negative directories : Bool) → Text → Line
line_of_body negative directories body =
    if length body == 0 || ends_in body slash then nothing
    else line_of_reading negative directories (reading_of (is_path body) (without_first body slash))

-- the line of a rule without its `!`: if it ends in `/`, it is for directories only
abbrev pub line_of_rule : (negative : Bool) → Text → Line
line_of_rule negative rule = line_of_body negative (ends_in rule slash) (without_last rule slash)

-- the line of a text without its CR and its trailing spaces
abbrev pub line_of_kept : Text → Line
line_of_kept kept = line_of_rule (has kept 0 exclamation_mark) (without_first kept exclamation_mark)

-- the line of any text: a comment begins with `#`
unfoldable pub line_of : Text → Line
line_of text =
    if has text 0 hash then nothing
    else line_of_kept (kept_line text)
