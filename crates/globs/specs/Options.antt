-- The options of the commands: which command accepts each, and what it sets.
use Rattle.std.specs.Prelude.{◌^◌, ◌-◌, ◌&&◌, ◌||◌, not, Bool, true, false, [], ◌∷◌, ◌++◌, Option, None, Some, Result}
use Rattle.std.specs.Prelude.{Ok, Err, if◌then◌else◌, codes, bytes_eq, ok_or, option_map}
use Rattle.glob_text.specs.Text.{Text}
use Rattle.glob_lines.specs.Lines.{line_feed}
use Rattle.glob_console.specs.Words.{limit_of, option_set}
use Rattle.glob_pattern.specs.Matching.Options.{new_options as match_options}
use Rattle.glob_tree.specs.Paths.{is_proper}
use Rattle.globs.specs.Chosen.{Chosen}
use Rattle.globs.specs.declared.name.Name.{Name}
use Rattle.globs.specs.declared.name.Name.TheVariants.{Find, Match, Ignore, Explain, Escape}
use Rattle.globs.specs.declared.options.Kind as kinds
use Rattle.globs.specs.declared.options.Kind.TheVariants as kind
use Rattle.globs.specs.declared.options.Kinds.{Kinds}
use Rattle.globs.specs.declared.options.Valued.{Valued}
use Rattle.globs.specs.declared.options.Valued.TheVariants.{Limit, Depth, Kind, Rule, File, RuleFile, Directory}
use Rattle.globs.specs.declared.options.Settings.{Settings}
use Rattle.globs.specs.declared.usage.Why.{Why}
use Rattle.globs.specs.declared.usage.Why.TheVariants as why

-- the command searches a tree, and its patterns follow the separator rule
abbrev pub is_find : Name → Bool
is_find Find = true
is_find Match = false
is_find Ignore = false
is_find Explain = false
is_find Escape = false

-- no kind is asked for, so each path is written
abbrev pub no_kinds : Kinds
no_kinds = record { files = false; directories = false; links = false }

-- the kinds, and one more
abbrev pub with_kind : kinds.Kind → Kinds → Kinds
with_kind kind.File asked = record asked { files = true }
with_kind kind.Directory asked = record asked { directories = true }
with_kind kind.Link asked = record asked { links = true }

-- the defaults: lines, case-sensitive, without the dot rule, any kind, no limit
abbrev pub new_settings : Name → Settings
new_settings name = record {
  options = record match_options { require_literal_separator = is_find name };
  end = line_feed;
  inverts = false;
  names_rules = false;
  limit = 2 ^ 64 - 1;
  depth = None;
  kinds = no_kinds;
  follows = false;
  is_git = false;
  is_utf8_only = false;
}

abbrev pub new_options : Name → Chosen
new_options name = record {
  settings = new_settings name;
  files = [];
  rules = [];
  rule_files = [];
  directory = [];
}

-- the command writes records, which end in a NUL after `-0`
abbrev pub has_records : Name → Bool
has_records Find = true
has_records Match = true
has_records Ignore = true
has_records Explain = false
has_records Escape = true

-- the command takes patterns, and the options of matching
abbrev pub has_pattern : Name → Bool
has_pattern Find = true
has_pattern Match = true
has_pattern Ignore = false
has_pattern Explain = true
has_pattern Escape = false

-- the command is `match`
abbrev pub is_match : Name → Bool
is_match Find = false
is_match Match = true
is_match Ignore = false
is_match Explain = false
is_match Escape = false

-- the command is `ignore`
abbrev pub is_ignore : Name → Bool
is_ignore Find = false
is_ignore Match = false
is_ignore Ignore = true
is_ignore Explain = false
is_ignore Escape = false

-- the command can read the ignore files of git
abbrev pub has_git : Name → Bool
has_git Find = true
has_git Match = false
has_git Ignore = true
has_git Explain = false
has_git Escape = false

-- the settings with a flag set, if the word is a flag of the command: an option without a value
abbrev pub with_flag : Name → Text → Settings → Option Settings
with_flag name word s =
    if bytes_eq word (codes "-0") && has_records name then Some (record s { end = 0 })
    else (if bytes_eq word (codes "-v") && is_match name then Some (record s { inverts = true })
    else (if bytes_eq word (codes "-v") && is_ignore name then Some (record s { names_rules = true })
    else (if bytes_eq word (codes "-L") && is_find name then Some (record s { follows = true })
    else (if bytes_eq word (codes "--git") && has_git name then Some (record s { is_git = true })
    else (if bytes_eq word (codes "--utf8-only") && is_find name then Some (record s { is_utf8_only = true })
    else (if bytes_eq word (codes "-s") && is_find name then None
    else (if has_pattern name then option_map (λ o. record s { options = o }) (option_set word s.options) else None)))))))

-- the option that the word names, if it has a value and the command accepts it
abbrev pub valued_of : Name → Text → Option Valued
valued_of name word =
    if not (is_find name) then None
    else (if bytes_eq word (codes "-n") then Some Limit
    else (if bytes_eq word (codes "-t") then Some Kind
    else (if bytes_eq word (codes "-x") then Some Rule
    else (if bytes_eq word (codes "--max-depth") then Some Depth
    else (if bytes_eq word (codes "--ignore") then Some File
    else (if bytes_eq word (codes "--ignore-files") then Some RuleFile
    else (if bytes_eq word (codes "-C") || bytes_eq word (codes "--directory") then Some Directory else None)))))))

-- the kind that the word names
abbrev pub kind_of : Text → Option kinds.Kind
kind_of word =
    if bytes_eq word (codes "f") then Some kind.File
    else (if bytes_eq word (codes "d") then Some kind.Directory
    else (if bytes_eq word (codes "l") then Some kind.Link else None))

-- the options with one option set to its value, or why the word is not a value of it; any word may be a rule, a file or
-- a directory, and a kind is added to the kinds before it
abbrev pub value_taken : Valued → Text → Chosen → Result Chosen Why
value_taken Limit word o =
    ok_or (option_map (λ n. record o { settings = record o.settings { limit = n } }) (limit_of word)) why.Limit
value_taken Depth word o =
    ok_or (option_map (λ n. record o { settings = record o.settings { depth = Some n } }) (limit_of word)) why.Depth
value_taken Kind word o =
    ok_or (option_map (λ k. record o { settings = record o.settings { kinds = with_kind k o.settings.kinds } }) (kind_of word))
    why.Kind
value_taken Rule word o = Ok (record o { rules = o.rules ++ word ∷ [] })
value_taken File word o = Ok (record o { files = o.files ++ word ∷ [] })
value_taken RuleFile word o =
    if is_proper word then Ok (record o { rule_files = o.rule_files ++ word ∷ [] }) else Err why.RuleFile
value_taken Directory word o = Ok (record o { directory = word })
