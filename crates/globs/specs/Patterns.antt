-- The patterns of a command line.
use Rattle.std.specs.Prelude.{◌≡◌, Bool, true, false, List, ◌∷◌, ◌++◌, Contains, ⊤}
use Rattle.std.specs.List.{list_any}
use Rattle.std.specs.Str.{chars}
use Rattle.glob_text.specs.Text.{Text}
use Rattle.glob_pattern.specs.Computing.Deciding.{is_match}
use Rattle.glob_pattern.specs.Grammar.Faults.{IsFault}
use Rattle.glob_pattern.specs.declared.options.MatchOptions.{MatchOptions}
use Rattle.glob_set.specs.Braces.{IsBraceFault, lexemes}
use Rattle.glob_set.specs.BraceSets.{AreAccepted}
use Rattle.glob_set.specs.Sets.{Set}
use Rattle.globs.specs.Find.Below.{are_below, is_below}
use Rattle.globs.specs.declared.patterns.PatternFault.{PatternFault}
use Rattle.globs.specs.declared.patterns.PatternFault.TheVariants.{Astray, Parted, Syntax, Braces, Memory}

-- the set of the patterns, under these options
abbrev pub set_of : MatchOptions → (patterns : List Text) → Set
set_of o patterns = record { patterns = patterns; options = o }

-- some pattern matches the text
unfoldable pub is_any_match : Set → (text : Text) → Bool
is_any_match set text = list_any (λ pattern. is_match set.options (chars pattern) (chars text)) set.patterns

-- the first of the texts with an empty component, `.` or `..`
abbrev pub IsFirstAstray : (texts : List Text) → (text : Text) → Type 0
IsFirstAstray texts text =
    (before after : List Text) × (texts ≡ before ++ text ∷ after)
    × (are_below before ≡ true) × (is_below text ≡ false)

-- The fault is about the first text with an empty component, `.` or `..`; or about the first text that is not a valid
-- pattern; or about the braces of some text; or an allocation failed. A pattern with a `/` in a bracket is not valid.
abbrev pub IsPatternFault : (texts : List Text) → PatternFault → Type 0
IsPatternFault texts (Astray pattern column) = IsFirstAstray texts pattern.now
IsPatternFault texts (Parted pattern column) = ⊥
IsPatternFault texts (Syntax pattern e) =
    (before after : List Text) × (texts ≡ before ++ pattern.now ∷ after)
    × AreAccepted before × IsFault (chars pattern.now) (record { place = e.pos; message = e.msg.now })
IsPatternFault texts (Braces pattern e) = Contains texts pattern.now × IsBraceFault (lexemes (chars pattern.now)) e
IsPatternFault texts Memory = ⊤
