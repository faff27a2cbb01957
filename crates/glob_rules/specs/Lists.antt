-- The ignore list of a text, and which of its lines are refused.
use Rattle.std.specs.Prelude.{◌≡◌, ℕ, ◌+◌, ◌-◌, ◌^◌, min, Bool, true, ◌&&◌, ◌==◌, if◌then◌else◌, List, [], ◌∷◌, ◌++◌, drop, is_ok, ⊤}
use Rattle.std.specs.List.{fold, slice_split}
use Rattle.std.specs.Str.{chars, is_utf8}
use Rattle.glob_text.specs.Text.{Text, has}
use Rattle.glob_pattern.specs.Computing.Reading.{reading_of}
use Rattle.glob_pattern.specs.Matching.Options.{new_options}
use Rattle.glob_pattern.specs.declared.options.MatchOptions.{MatchOptions}
use Rattle.glob_rules.specs.Lines.{Line, line_of}
use Rattle.glob_rules.specs.declared.error.Reason.TheVariants as reasons
use Rattle.glob_rules.specs.declared.error.RuleRefusal.{RuleRefusal}
use Rattle.glob_rules.specs.declared.error.RuleRefusal.TheVariants as refusal
use Rattle.glob_rules.specs.declared.reading.Outcome.{Outcome}
use Rattle.glob_rules.specs.declared.reading.Outcome.TheVariants.{Nothing, Named, Refused}
use Rattle.glob_rules.specs.declared.rule.Rule.{Rule}

-- an ignore list: the number of its lines, its rules, and the pattern of each rule
pub record Ignores : Type 0 where
  pub lines : ℕ
  pub rules : List Rule
  pub patterns : List Text

-- what was read of a text: the list, and a refusal for each refused line
pub record TextRead : Type 0 where
  pub list : Ignores
  pub refusals : List RuleRefusal

-- the options for matching rules: case-sensitive, and only the separator rule is on
abbrev pub rule_options : MatchOptions
rule_options = record new_options { require_literal_separator = true }

-- before the first line
abbrev pub none_read : TextRead
none_read = record { list = record { lines = 0; rules = []; patterns = [] }; refusals = [] }

-- whether the translated rule is a valid pattern
unfoldable pub is_pattern : Text → Bool
is_pattern glob = is_utf8 glob && is_ok (reading_of (chars glob))

-- the outcome of a line with this translation, which is also refused if it is not a valid pattern
abbrev pub settled : Text → Outcome → Outcome
settled glob Nothing = Nothing
settled glob Named = if is_pattern glob then Named else Refused reasons.Pattern
settled glob (Refused reason) = Refused reason

-- the number of lines after one more; it stops at `usize::MAX`
abbrev pub next_line : ℕ → ℕ
next_line lines = min (lines + 1) (2 ^ 64 - 1)

-- the list after a line without a rule
abbrev pub without_rule : (line : ℕ) → Ignores → Ignores
without_rule line list = record { lines = line; rules = list.rules; patterns = list.patterns }

-- the list after a line with a rule
abbrev pub with_rule : (line : ℕ) → Ignores → Line → Ignores
with_rule line list l = record {
  lines = line;
  rules = list.rules ++ record { line = line; negative = l.negative; directories = l.directories } ∷ [];
  patterns = list.patterns ++ l.glob ∷ [];
}

-- the list after a line with this outcome; a refused line has no rule
abbrev pub with_outcome : (line : ℕ) → Ignores → Line → Outcome → Ignores
with_outcome line list l Nothing = without_rule line list
with_outcome line list l Named = with_rule line list l
with_outcome line list l (Refused reason) = without_rule line list

-- the refusals after a line with this outcome
abbrev pub with_refusal : (line : ℕ) → List RuleRefusal → Outcome → List RuleRefusal
with_refusal line before Nothing = before
with_refusal line before Named = before
with_refusal line before (Refused reason) = before ++ refusal.Line line reason ∷ []

-- what was read after a line that has this outcome
abbrev pub after_line : (line : ℕ) → TextRead → Line → Outcome → TextRead
after_line line read l o = record {
  list = with_outcome line read.list l o;
  refusals = with_refusal line read.refusals o;
}

-- what was read after a line with this text
unfoldable pub read_line : TextRead → Text → TextRead
read_line read text =
    let l = line_of text in after_line (next_line read.list.lines) read l (settled l.glob l.outcome)

-- whether the text begins with a byte order mark
abbrev pub begins_with_mark : Text → Bool
begins_with_mark text = has text 0 239 && has text 1 187 && has text 2 191

-- the text without its byte order mark
abbrev pub without_byte_order_mark : Text → Text
without_byte_order_mark text = if begins_with_mark text then drop 3 text else text

-- the lines of a text, split at line feeds
abbrev pub lines_of : Text → List Text
lines_of text = slice_split (λ c. c == 10) (without_byte_order_mark text)

-- what is read of a text
unfoldable pub text_read : Text → TextRead
text_read text = fold read_line none_read (lines_of text)

-- the ignore list of a text: the rules of the lines that are not refused
unfoldable pub rules_of : Text → Ignores
rules_of text = (text_read text).list

-- the refusals of its other lines, in order, each with the number of its line, counted from 1, and the reason
unfoldable pub refusals_of : Text → List RuleRefusal
refusals_of text = (text_read text).refusals

-- no line is refused
unfoldable pub AreTaken : Text → Type 0
AreTaken text = refusals_of text ≡ []

-- The error fits the text: it is the refusal of the first refused line, or an allocation failed.
unfoldable pub RefusesText : Text → RuleRefusal → Type 0
RefusesText text (refusal.Line n reason) =
    (later : List RuleRefusal) × (refusals_of text ≡ refusal.Line n reason ∷ later)
RefusesText text refusal.Memory = ⊤
