-- What a command line asks for, or its first wrong word.
use Rattle.std.specs.Prelude.{◌||◌, ◌&&◌, not, Bool, true, false, List, [], ◌∷◌, Option, None, Some, Ok, Err, is_some}
use Rattle.std.specs.Prelude.{if◌then◌else◌, codes, bytes_eq, option_map, unwrap_or}
use Rattle.glob_text.specs.Text.{Text}
use Rattle.glob_console.specs.Words.{is_option}
use Rattle.globs.specs.Chosen.{Chosen}
use Rattle.globs.specs.Options.{is_ignore, new_options, new_settings, value_taken, valued_of}
use Rattle.globs.specs.Reading.{Reading, Asks, Page, Wrong, Request, Runs, Helps, VersionLine, Refused}
use Rattle.globs.specs.Spelling.{attached, with_flags}
use Rattle.globs.specs.declared.name.Name.{Name}
use Rattle.globs.specs.declared.name.Name.TheVariants.{Find, Match, Ignore, Explain, Escape}
use Rattle.globs.specs.declared.options.Settings.{Settings}
use Rattle.globs.specs.declared.usage.Why.{Why}
use Rattle.globs.specs.declared.usage.Why.TheVariants as why

-- the command that the word names
abbrev pub name_of : Text → Option Name
name_of word =
    if bytes_eq word (codes "find") then Some Find
    else (if bytes_eq word (codes "match") then Some Match
    else (if bytes_eq word (codes "ignore") then Some Ignore
    else (if bytes_eq word (codes "explain") then Some Explain
    else (if bytes_eq word (codes "escape") then Some Escape else None))))

-- the first word that begins with a hyphen
abbrev pub first_option : List Text → Option Text
first_option [] = None
first_option (word ∷ words) = if is_option word then Some word else first_option words

-- the command takes a pattern and a text
abbrev pub has_text : Name → Bool
has_text Find = false
has_text Match = false
has_text Ignore = false
has_text Explain = true
has_text Escape = false

-- of the words after a pattern to explain, the surplus word after the text, if neither begins with a hyphen
abbrev pub extra_word : Name → List Text → Option Text
extra_word name [] = None
extra_word name (text ∷ []) = None
extra_word name (text ∷ extra ∷ words) =
    if has_text name && (not (is_option text) && not (is_option extra)) then Some extra else None

-- the word asks for a help page
abbrev pub is_help : Text → Bool
is_help word = bytes_eq word (codes "-h") || bytes_eq word (codes "--help")

-- why a word that begins with a hyphen is wrong after an operand: it is an option that comes too late, or not an option
abbrev pub late_why : Name → Text → Why
late_why name word =
    if is_help word || (bytes_eq word (codes "--") || (is_some (valued_of name word)
    || (is_some (attached name word) || is_some (with_flags name word (new_settings name)))))
    then why.Late else why.Unknown

-- the command needs an operand; with git's rules `ignore` does not
abbrev pub needs_operand : Name → Settings → Bool
needs_operand name s = not (is_ignore name && s.is_git)

-- the operands, which all come after the options; after `--` they may begin with a hyphen
abbrev pub operands_asked : Name → Chosen → List Text → Reading
operands_asked name o [] = if needs_operand name o.settings then Wrong why.Bare [] else Asks o []
operands_asked name o (word ∷ []) =
    if bytes_eq word (codes "--") then operands_asked name o []
    else (if is_option word then Wrong why.Unknown word else Asks o (word ∷ []))
operands_asked name o (word ∷ next ∷ words) =
    if bytes_eq word (codes "--") then Asks o (next ∷ words)
    else (if is_option word then Wrong why.Unknown word
    else unwrap_or (option_map (Wrong why.Extra) (extra_word name (next ∷ words)))
    (unwrap_or (option_map (λ late. Wrong (late_why name late) late) (first_option (next ∷ words))) (Asks o (word ∷ next ∷ words))))

-- no words follow
abbrev pub is_last : List Text → Bool
is_last [] = true
is_last (word ∷ words) = false

-- The remaining words of a command, after the options in `o`. An option with a value takes the word after it, unless
-- its own word has one. Words after one that asks for help are ignored.
abbrev pub reading : Name → Chosen → List Text → Reading
reading name o [] = operands_asked name o []
reading name o (word ∷ []) =
    if is_help word then Page
    else (if is_some (valued_of name word) then Wrong why.Valueless word
    else elim (attached name word) [
      | Some it ↦ elim (value_taken it.0 it.1 o) [ Ok taken ↦ reading name taken [] | Err w ↦ Wrong w it.1 ]
      | None ↦ elim (with_flags name word o.settings) [
        | Some settings ↦ reading name (record o { settings = settings }) []
        | None ↦ operands_asked name o (word ∷ [])
      ]
    ])
reading name o (word ∷ next ∷ words) =
    if is_help word then Page
    else elim (valued_of name word) [
      | Some option ↦ elim (value_taken option next o) [
        | Ok taken ↦ if is_last words then Wrong why.Taken next else reading name taken words
        | Err w ↦ Wrong w next
      ]
      | None ↦ elim (attached name word) [
        | Some it ↦ elim (value_taken it.0 it.1 o) [ Ok taken ↦ reading name taken (next ∷ words) | Err w ↦ Wrong w it.1 ]
        | None ↦ elim (with_flags name word o.settings) [
          | Some settings ↦ reading name (record o { settings = settings }) (next ∷ words)
          | None ↦ operands_asked name o (word ∷ next ∷ words)
        ]
      ]
    ]

-- the page that the word after `help` names: a command's page or, for `help` itself, the program's
abbrev pub page_named : Text → Option (Option Name)
page_named word =
    if bytes_eq word (codes "help") || is_help word then Some None else option_map (λ name. Some name) (name_of word)

-- the words after `help`; there may be at most one
abbrev pub help_asked : List Text → Request
help_asked [] = Helps None
help_asked (word ∷ []) = unwrap_or (option_map Helps (page_named word)) (Refused None why.Command word)
help_asked (word ∷ extra ∷ words) =
    if is_some (page_named word) then Refused None why.Surplus extra else Refused None why.Command word

-- the request of a command with this reading of its words
abbrev pub request_of_reading : Name → Reading → Request
request_of_reading name (Asks o operands) = Runs name o operands
request_of_reading name Page = Helps (Some name)
request_of_reading name (Wrong w word) = Refused (Some name) w word

-- the words after a command's name
abbrev pub words_asked : Name → List Text → Request
words_asked name words = request_of_reading name (reading name (new_options name) words)

-- a word in the place of a command's name, and the words after it
unfoldable pub command_asked : Text → List Text → Request
command_asked word words =
    unwrap_or (option_map (λ name. words_asked name words) (name_of word)) (Refused None why.Command word)

-- the words after the program's name; words after the one that asks for the version are ignored
unfoldable pub request_asked : List Text → Request
request_asked [] = Refused None why.Empty []
request_asked (word ∷ words) =
    if bytes_eq word (codes "--version") then VersionLine
    else (if is_help word || bytes_eq word (codes "help") then help_asked words else command_asked word words)
