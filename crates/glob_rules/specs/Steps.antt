-- What a byte of a rule does, given the mode that the bytes before it led to: it reads git's syntax and writes a
-- pattern. `ahead` is the text after the byte, up to the next `]`, or up to the end if there is none.
use Rattle.std.specs.Prelude.{ℕ, Bool, true, false, ◌||◌, ◌&&◌, not, nat_le, ◌==◌, if◌then◌else◌, Option, Some, None}
use Rattle.glob_text.specs.Characters.{slash}
use Rattle.glob_text.specs.Text.{Text}
use Rattle.glob_pattern.specs.Grammar.Characters.{star, question_mark, open_bracket, close_bracket, exclamation_mark, hyphen, is_wildcard}
use Rattle.glob_rules.specs.Classes.{class_named, is_between_colons, without_colons}
use Rattle.glob_rules.specs.declared.classes.Class.{Class}
use Rattle.glob_rules.specs.declared.error.Reason.{Reason}
use Rattle.glob_rules.specs.declared.error.Reason.TheVariants.{BeyondAscii, UnknownClass, StarsBehindText, Nul}
use Rattle.glob_rules.specs.declared.steps.Mode.{Mode}
use Rattle.glob_rules.specs.declared.steps.Mode.TheVariants.{Units, Escape, Star, Stars, EscapedStars, Open, Negation}
use Rattle.glob_rules.specs.declared.steps.Mode.TheVariants.{Range, Item, InClass, Hyphen, ItemEscape, HyphenEscape}
use Rattle.glob_rules.specs.declared.steps.Mode.TheVariants.{Refused}
use Rattle.glob_rules.specs.declared.steps.Prefix.{Prefix}
use Rattle.glob_rules.specs.declared.steps.Change.TheVariants.{Keep, Clear, Add}
use Rattle.glob_rules.specs.declared.steps.BracketSpan.TheVariants.{Between, OfClass}
use Rattle.glob_rules.specs.declared.steps.Writing.{Writing}
use Rattle.glob_rules.specs.declared.steps.Writing.TheVariants.{Nothing, Byte, Bracketed, StarSlash, SlashStars, Held}
use Rattle.glob_rules.specs.declared.steps.Step.{Step}

-- `\`
abbrev pub backslash : ℕ
backslash = 92

-- `^`
abbrev pub caret : ℕ
caret = 94

-- a step that leaves the bracket's characters as they are
abbrev pub writes : Mode → Writing → Step
writes mode writing = record { mode = mode; change = Keep; writing = writing }

-- a step that only changes the mode
abbrev pub moves : Mode → Step
moves mode = writes mode Nothing

-- a step that adds the characters from `first` to `last` to the bracket
abbrev pub adds : Mode → (first last : ℕ) → Step
adds mode first last = record { mode = mode; change = Add (Between first last); writing = Nothing }

-- a step that refuses the line
abbrev pub refuses : Reason → Step
refuses reason = moves (Refused reason)

-- how a byte that matches itself is written: `[*]` for `*`
abbrev pub literal : ℕ → Writing
literal c = if is_wildcard c then Bracketed c else Byte c

-- inside a component, and not only literals
abbrev pub inside : Prefix
inside = record { all_literal = false; opening = false }

-- at the start of a component, and not only literals
abbrev pub at_start : Prefix
at_start = record { all_literal = false; opening = true }

-- the prefix with one more literal: a component begins after `/`
abbrev pub with_literal : Prefix → ℕ → Prefix
with_literal prefix c = record { all_literal = prefix.all_literal; opening = c == slash }

-- a byte after a complete unit
abbrev pub after_units : Prefix → ℕ → Step
after_units prefix c =
    if c == backslash then moves Escape
    else if c == star then writes (Star prefix) (Byte c)
    else if c == question_mark then writes (Units inside) (Byte c)
    else if c == open_bracket then record { mode = Open; change = Clear; writing = Byte c }
    else writes (Units (with_literal prefix c)) (Byte c)

-- a byte after a backslash
abbrev pub after_escape : ℕ → Step
after_escape c = writes (Units (with_literal inside c)) (literal c)

-- A byte after one star. A second star counts only at the start of a component or after nothing but literals; elsewhere
-- `**` means `*`.
abbrev pub after_star : Prefix → ℕ → Step
after_star prefix c =
    if not (c == star) then after_units inside c
    else if prefix.all_literal || prefix.opening then moves (Stars prefix)
    else moves (Star inside)

-- A byte after two or more stars that count. Before `/` they are a component if one begins there, and are refused after
-- literals; before anything else they are one star.
abbrev pub after_stars : Prefix → ℕ → Step
after_stars prefix c =
    if c == star then moves (Stars prefix)
    else if c == backslash then moves EscapedStars
    else if not (c == slash) then after_units inside c
    else if prefix.opening then writes (Units at_start) StarSlash
    else refuses StarsBehindText

-- a byte after such stars and a backslash: before `/` the stars match one or more directories
abbrev pub after_escaped_stars : ℕ → Step
after_escaped_stars c = if c == slash then writes (Units at_start) SlashStars else after_escape c

-- the `[` of a class, which is refused if git does not know the class
abbrev pub as_class : Option Class → Step
as_class None = refuses UnknownClass
as_class (Some class) = record { mode = InClass; change = Add (OfClass class); writing = Nothing }

-- `[` in a bracket: the start of a class, or an item
abbrev pub as_open : (ahead : Text) → Step
as_open ahead =
    if is_between_colons ahead then as_class (class_named (without_colons ahead))
    else adds (Item open_bracket) open_bracket open_bracket

-- a byte in a bracket: an item, or the closing `]`
abbrev pub as_item : ℕ → (ahead : Text) → Step
as_item c ahead =
    if c == close_bracket then writes (Units inside) Held
    else if c == backslash then moves ItemEscape
    else if c == open_bracket then as_open ahead
    else adds (Item c) c c

-- the first item of a bracket, which may be `]`
abbrev pub as_first_item : ℕ → (ahead : Text) → Step
as_first_item c ahead = if c == close_bracket then adds (Item c) c c else as_item c ahead

-- a byte after the opening `[`
abbrev pub after_open : ℕ → (ahead : Text) → Step
after_open c ahead =
    if c == exclamation_mark || c == caret then writes Negation (Byte exclamation_mark) else as_first_item c ahead

-- a byte after an item that may begin a range
abbrev pub after_item : (item : ℕ) → ℕ → (ahead : Text) → Step
after_item item c ahead = if c == hyphen then moves (Hyphen item) else as_item c ahead

-- a byte in a class, which ends at `]` and cannot begin a range
abbrev pub in_class : ℕ → Step
in_class c = moves (if c == close_bracket then Range else InClass)

-- A byte after an item and `-`: the end of the range. Before `]`, the `-` is an item itself.
abbrev pub after_hyphen : (item : ℕ) → ℕ → Step
after_hyphen item c =
    if c == backslash then moves (HyphenEscape item)
    else if c == close_bracket then record (adds (Units inside) hyphen hyphen) { writing = Held }
    else adds Range item c

-- whether the next byte is inside a bracket
abbrev pub is_in_bracket : Mode → Bool
is_in_bracket (Units prefix) = false
is_in_bracket Escape = false
is_in_bracket (Star prefix) = false
is_in_bracket (Stars prefix) = false
is_in_bracket EscapedStars = false
is_in_bracket Open = true
is_in_bracket Negation = true
is_in_bracket Range = true
is_in_bracket (Item item) = true
is_in_bracket InClass = true
is_in_bracket (Hyphen item) = true
is_in_bracket ItemEscape = true
is_in_bracket (HyphenEscape item) = true
is_in_bracket (Refused reason) = false

-- the step for a byte that is neither NUL nor, in a bracket, non-ASCII
abbrev pub accepted_step : Mode → ℕ → (ahead : Text) → Step
accepted_step (Units prefix) c ahead = after_units prefix c
accepted_step Escape c ahead = after_escape c
accepted_step (Star prefix) c ahead = after_star prefix c
accepted_step (Stars prefix) c ahead = after_stars prefix c
accepted_step EscapedStars c ahead = after_escaped_stars c
accepted_step Open c ahead = after_open c ahead
accepted_step Negation c ahead = as_first_item c ahead
accepted_step Range c ahead = as_item c ahead
accepted_step (Item item) c ahead = after_item item c ahead
accepted_step InClass c ahead = in_class c
accepted_step (Hyphen item) c ahead = after_hyphen item c
accepted_step ItemEscape c ahead = adds (Item c) c c
accepted_step (HyphenEscape item) c ahead = adds Range item c
accepted_step (Refused reason) c ahead = refuses reason

-- the step for any byte
unfoldable pub step_from : Mode → ℕ → (ahead : Text) → Step
step_from mode c ahead =
    if c == 0 then refuses Nul
    else if nat_le 128 c && is_in_bracket mode then refuses BeyondAscii
    else accepted_step mode c ahead
