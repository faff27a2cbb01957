-- The printed texts of faults. Control characters in words from outside are escaped.
use Rattle.std.specs.Prelude.{ℕ, Bool, true, false, if◌then◌else◌, List, [], ◌++◌, ◌∷◌, Option, None, Some, ⊤, codes, decimal}
use Rattle.glob_console.specs.Lines.{WritesLine}
use Rattle.glob_pattern.specs.Grammar.Faults.{kind_of, message_of}
use Rattle.glob_pattern.specs.declared.error.PatternErrorKind.{PatternErrorKind}
use Rattle.glob_pattern.specs.declared.error.PatternErrorKind.TheVariants.{Wildcards, Recursive, Range}
use Rattle.glob_rules.specs.Words.{reason_words}
use Rattle.glob_set.specs.Words.{brace_error_words}
use Rattle.glob_set.specs.declared.braces.error.BraceError.{BraceError}
use Rattle.glob_set.specs.declared.braces.error.BraceError.TheVariants.{Unmatched, Unclosed, TooMany}
use Rattle.glob_text.specs.Text.{Text}
use Rattle.globs.specs.Foreign.{foreign_words, habit_words, unknown_words}
use Rattle.globs.specs.Reading.{Request, Runs, Helps, VersionLine, Refused}
use Rattle.globs.specs.Visible.{caret_lines, visible}
use Rattle.globs.specs.declared.braces.AlternativeLines.{AlternativeLines}
use Rattle.globs.specs.declared.ignoring.RulesFault.{RulesFault}
use Rattle.globs.specs.declared.ignoring.RulesFault.TheVariants as rules
use Rattle.globs.specs.declared.name.Name.{Name}
use Rattle.globs.specs.declared.name.Name.TheVariants.{Find, Match, Ignore, Explain, Escape}
use Rattle.globs.specs.declared.patterns.FaultLines.{FaultLines}
use Rattle.globs.specs.declared.patterns.PatternFault.TheVariants as pattern
use Rattle.globs.specs.declared.usage.UsageFault.TheVariants as usage
use Rattle.globs.specs.declared.usage.UsageLine.{UsageLine}
use Rattle.globs.specs.declared.usage.Why.{Why}
use Rattle.globs.specs.declared.usage.Why.TheVariants as why

-- the name of a command
abbrev pub name_word : Name → Text
name_word Find = codes "find"
name_word Match = codes "match"
name_word Ignore = codes "ignore"
name_word Explain = codes "explain"
name_word Escape = codes "escape"

-- where to find help
abbrev pub help_words : Option Name → Text
help_words None = codes "try globs help"
help_words (Some name) = codes "try globs help " ++ name_word name

-- which operand is missing
abbrev pub bare_words : Option Name → Text
bare_words None = codes "missing PATTERN"
bare_words (Some Find) = codes "missing PATTERN, as in globs find '**/*.rs'"
bare_words (Some Match) = codes "missing PATTERN, as in globs match '*.rs' <FILE"
bare_words (Some Ignore) = codes "missing FILE, as in git ls-files | globs ignore .gitignore"
bare_words (Some Explain) = codes "missing PATTERN, as in globs explain '*.rs' a.rs"
bare_words (Some Escape) =
    codes "missing TEXT, as in globs escape 'a[1]', or for lines xargs -d '\\n' globs escape --"

-- what is wrong with a word of a command line
abbrev pub why_words : Option Name → Why → Text
why_words name why.Unknown = codes " is not an option"
why_words name why.Valueless = codes " needs a value, which is the next word or follows ="
why_words name why.Limit = codes " is not a limit: -n needs a whole number below 2^64"
why_words name why.Depth = codes " is not a depth: --max-depth needs a whole number below 2^64"
why_words name why.Kind = codes " is not a kind: use -t f, -t d or -t l, or several of them"
why_words name why.RuleFile = codes " is not a file name: --ignore-files needs one, such as .gitignore"
why_words name why.Late = codes " comes after an operand, where it could be a name: put options first"
why_words name why.Taken = codes " is the value of the option before it, and no PATTERN follows"
why_words name why.Bare = bare_words name
why_words name why.Textless = codes "missing TEXT, as in globs explain '*.rs' a.rs"
why_words name why.Extra = codes " comes after the text: quote the pattern"
why_words name why.Surplus = codes " is one word too many: ask help about one command"
why_words name why.Command = codes " is not a command"
why_words name why.Empty = codes "missing command"

-- a word of the command line, in backquotes
abbrev pub quoted : (word : Text) → Text
quoted word = 96 ∷ (visible word ++ codes "`")

-- the wrong word, if there is one
abbrev pub subject_words : Why → (word : Text) → Text
subject_words why.Unknown word = quoted word
subject_words why.Valueless word = quoted word
subject_words why.Limit word = quoted word
subject_words why.Depth word = quoted word
subject_words why.Kind word = quoted word
subject_words why.RuleFile word = quoted word
subject_words why.Late word = quoted word
subject_words why.Taken word = quoted word
subject_words why.Bare word = []
subject_words why.Textless word = []
subject_words why.Extra word = quoted word
subject_words why.Surplus word = quoted word
subject_words why.Command word = quoted word
subject_words why.Empty word = []

-- the fault is about an option that the command does not know
abbrev pub is_of_unknown : Why → Bool
is_of_unknown why.Unknown = true
is_of_unknown why.Valueless = false
is_of_unknown why.Limit = false
is_of_unknown why.Depth = false
is_of_unknown why.Kind = false
is_of_unknown why.RuleFile = false
is_of_unknown why.Late = false
is_of_unknown why.Taken = false
is_of_unknown why.Bare = false
is_of_unknown why.Textless = false
is_of_unknown why.Extra = false
is_of_unknown why.Surplus = false
is_of_unknown why.Command = false
is_of_unknown why.Empty = false

-- the fault is about an option that comes too late
abbrev pub is_of_late : Why → Bool
is_of_late why.Unknown = false
is_of_late why.Valueless = false
is_of_late why.Limit = false
is_of_late why.Depth = false
is_of_late why.Kind = false
is_of_late why.RuleFile = false
is_of_late why.Late = true
is_of_late why.Taken = false
is_of_late why.Bare = false
is_of_late why.Textless = false
is_of_late why.Extra = false
is_of_late why.Surplus = false
is_of_late why.Command = false
is_of_late why.Empty = false

-- the fault is about a word that is not a command
abbrev pub is_of_command : Why → Bool
is_of_command why.Unknown = false
is_of_command why.Valueless = false
is_of_command why.Limit = false
is_of_command why.Depth = false
is_of_command why.Kind = false
is_of_command why.RuleFile = false
is_of_command why.Late = false
is_of_command why.Taken = false
is_of_command why.Bare = false
is_of_command why.Textless = false
is_of_command why.Extra = false
is_of_command why.Surplus = false
is_of_command why.Command = true
is_of_command why.Empty = false

-- what to write instead of a word that another tool would know
abbrev pub instead_words : Option Name → Why → (word : Text) → Text
instead_words None w word = if is_of_command w then habit_words word else []
instead_words (Some name) w word =
    if is_of_unknown w then unknown_words name word
    else (if is_of_late w then foreign_words name word else [])

-- the text about a wrong word, after a command or in its place
abbrev pub word_fault_words : Option Name → Why → (word : Text) → Text
word_fault_words name w word =
    subject_words w word ++ (why_words name w ++ (instead_words name w word ++ (codes ": " ++ help_words name)))

-- the line of a usage fault
abbrev pub usage_words : UsageLine → Text
usage_words line = elim line.fault [
  | usage.Word w word ↦ word_fault_words line.name w word.now
  | usage.Memory ↦ codes "out of memory"
]

-- If the words are refused, a line was written with the prefix, the wrong word and the reason. Otherwise this says
-- nothing.
unfoldable pub WritesUsage : {E : Type 0} → (contents : E → Option (List ℕ)) → (prefix : Text) → Request → (old new : E)
    → Type 0
WritesUsage contents prefix (Runs name o operands) old new = ⊤
WritesUsage contents prefix (Helps name) old new = ⊤
WritesUsage contents prefix VersionLine old new = ⊤
WritesUsage contents prefix (Refused name w word) old new =
    WritesLine prefix (word_fault_words name w word) (contents old) (contents new)

-- the message for a kind of syntax error: the library's, except for an unclosed bracket
abbrev pub message_words : PatternErrorKind → Text
message_words Wildcards = message_of Wildcards
message_words Recursive = message_of Recursive
message_words Range = codes "unclosed ["

-- the lines about refused braces, except for the last
abbrev pub brace_lines : (text : Text) → BraceError → Text
brace_lines text (Unmatched place) = brace_error_words (Unmatched place) ++ 10 ∷ caret_lines text place
brace_lines text (Unclosed place) = brace_error_words (Unclosed place) ++ 10 ∷ caret_lines text place
brace_lines text TooMany = brace_error_words TooMany ++ 10 ∷ visible text

-- the lines about a fault: what is wrong, the pattern, a caret under the place, and where to find help
abbrev pub marked_words : Name → (what text : Text) → (place : ℕ) → Text
marked_words name what text place = what ++ 10 ∷ (caret_lines text place ++ 10 ∷ help_words (Some name))

-- the lines about a refused pattern
abbrev pub fault_words : FaultLines → Text
fault_words lines = elim lines.fault [
  | pattern.Astray text column ↦
      marked_words lines.name (codes "no component may be empty, `.` or `..`") text.now column
  | pattern.Parted text column ↦ marked_words lines.name (codes "in find, a bracket must not contain /") text.now column
  | pattern.Syntax text e ↦ marked_words lines.name (message_words (kind_of e.msg.now)) text.now e.pos
  | pattern.Braces text e ↦ brace_lines text.now e ++ 10 ∷ help_words (Some lines.name)
  | pattern.Memory ↦ codes "out of memory"
]

-- the lines about a refused alternative of a word
abbrev pub alternative_words : AlternativeLines → Text
alternative_words lines = quoted lines.word.now ++ (codes ": " ++ fault_words lines.lines)

-- the line about refused rules; the system's error texts are not known
abbrev pub rules_words : RulesFault → Option Text
rules_words (rules.NoText file) = Some (visible file.now ++ codes ": the file is not UTF-8")
rules_words (rules.Unread file e) = None
rules_words (rules.Refused source line reason) =
    Some (visible source.now ++ (codes ": line " ++ (decimal line ++ (codes ": " ++ reason_words reason))))
rules_words (rules.Rule text reason) = Some (codes "-x " ++ (quoted text.now ++ (codes ": " ++ reason_words reason)))
rules_words rules.Memory = Some (codes "out of memory")
