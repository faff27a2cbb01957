-- What `match` and `find` do with a text, by the alternatives of a pattern.
use Rattle.std.specs.Prelude.{◌++◌, Bool, true, List, if◌then◌else◌, codes, not}
use Rattle.glob_pattern.specs.declared.options.MatchOptions.{MatchOptions}
use Rattle.glob_text.specs.Text.{Text}
use Rattle.globs.specs.Find.Below.{are_below, is_below}
use Rattle.globs.specs.Find.Leads.{below_lead, lead_of, led}
use Rattle.globs.specs.Patterns.{is_any_match, set_of}
use Rattle.globs.specs.declared.explain.verdict.Finding.{Finding}
use Rattle.globs.specs.declared.explain.verdict.Finding.TheVariants.{Finds, Misses, Parts, Refuses, Unwritten}
use Rattle.globs.specs.declared.explain.verdict.Verdict.{Verdict}

-- the options of `find`, which always has the separator rule
abbrev pub by_find : MatchOptions → MatchOptions
by_find o = record o { require_literal_separator = true }

-- one of the patterns matches the text under the options
abbrev pub is_taken : MatchOptions → (patterns : List Text) → (text : Text) → Bool
is_taken o patterns text = is_any_match (set_of o patterns) text

-- What `find` does with the text. It refuses a pattern in which a component after the lead is empty, `.` or `..`, and
-- writes no path with such a component. It finds any other text if one of the patterns with its lead matches what
-- follows the lead, under the separator rule.
abbrev pub finding_of : MatchOptions → (patterns : List Text) → (text : Text) → Finding
finding_of o patterns text =
    if not (are_below patterns) then Refuses
    else (if not (is_below text) then Unwritten
    else (if is_taken (by_find o) (led (lead_of text) patterns) (below_lead text) then Finds
    else (if is_taken o (led (lead_of text) patterns) (below_lead text) then Parts else Misses)))

-- what `match` and `find` do with the text
abbrev pub verdict_of : MatchOptions → (patterns : List Text) → (text : Text) → Verdict
verdict_of o patterns text = record { is_match = is_taken o patterns text; finding = finding_of o patterns text }

-- what the line says about `find`
abbrev pub finding_words : Finding → Text
finding_words Finds = codes "yes"
finding_words Misses = codes "no"
finding_words Parts = codes "no, because ?, * and brackets never match / in find"
finding_words Refuses = codes "refused, because a component of the pattern is empty, . or .."
finding_words Unwritten = codes "no, because it never writes a path with a component that is empty, . or .."

-- the line without its line feed
abbrev pub verdict_words : Verdict → Text
verdict_words v =
    codes "globs match: " ++ ((if v.is_match then codes "yes" else codes "no")
    ++ (codes ". globs find: " ++ finding_words v.finding))
