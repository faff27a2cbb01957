-- The translation of a rule, byte by byte.
use Rattle.std.specs.Prelude.{ℕ, Bool, if◌then◌else◌, List, [], ◌∷◌, ◌++◌}
use Rattle.glob_text.specs.Characters.{slash}
use Rattle.glob_text.specs.Text.{Text}
use Rattle.glob_pattern.specs.Grammar.Characters.{star}
use Rattle.glob_rules.specs.Classes.{before_close}
use Rattle.glob_rules.specs.Steps.{step_from}
use Rattle.glob_rules.specs.StepTexts.{written}
use Rattle.glob_rules.specs.declared.error.Reason.TheVariants.{StarsBehindText}
use Rattle.glob_rules.specs.declared.reading.Outcome.{Outcome}
use Rattle.glob_rules.specs.declared.reading.Outcome.TheVariants as outcomes
use Rattle.glob_rules.specs.declared.steps.BracketSpan.{BracketSpan}
use Rattle.glob_rules.specs.declared.steps.Step.{Step}
use Rattle.glob_rules.specs.declared.steps.Mode.{Mode}
use Rattle.glob_rules.specs.declared.steps.Mode.TheVariants.{Units, Escape, Star, Stars, EscapedStars, Open, Negation}
use Rattle.glob_rules.specs.declared.steps.Mode.TheVariants.{Range, Item, InClass, Hyphen, ItemEscape, HyphenEscape}
use Rattle.glob_rules.specs.declared.steps.Mode.TheVariants.{Refused}
use Rattle.glob_rules.specs.declared.steps.Change.{Change}
use Rattle.glob_rules.specs.declared.steps.Change.TheVariants.{Keep, Clear, Add}

-- a rule read in part: the mode after the bytes so far, the characters of the last bracket, and the pattern so far
pub record Read : Type 0 where
  pub mode : Mode
  pub spans : List BracketSpan
  pub glob : Text

-- Before the first byte. With a separator, a rule is relative to the list's directory; without one, it matches at any
-- depth.
abbrev pub reading_start : (path : Bool) → Read
reading_start path = record {
  mode = Units (record { all_literal = path; opening = path });
  spans = [];
  glob = if path then [] else star ∷ star ∷ slash ∷ [];
}

-- the bracket's characters after a change
abbrev pub changed : List BracketSpan → Change → List BracketSpan
changed spans Keep = spans
changed spans Clear = []
changed spans (Add span) = spans ++ span ∷ []

-- the reading after a step
abbrev pub stepped : Read → Step → Read
stepped r step =
    let spans = changed r.spans step.change in
    record { mode = step.mode; spans = spans; glob = r.glob ++ written spans step.writing }

-- the reading after one more byte
unfoldable pub next_reading : Read → ℕ → (ahead : Text) → Read
next_reading r c ahead = stepped r (step_from r.mode c ahead)

-- the reading after the rest
abbrev pub reading_from : Read → (rest : Text) → Read
reading_from r [] = r
reading_from r (c ∷ cs) = reading_from (next_reading r c (before_close cs)) cs

-- the reading after all of a rule
unfoldable pub reading_of : (path : Bool) → Text → Read
reading_of path text = reading_from (reading_start path) text

-- The outcome of a rule that ends in this mode. After a last lone backslash or in an open bracket, the rule matches
-- nothing.
abbrev pub outcome : Mode → Outcome
outcome (Units prefix) = outcomes.Named
outcome Escape = outcomes.Nothing
outcome (Star prefix) = outcomes.Named
outcome (Stars prefix) = if prefix.opening then outcomes.Named else outcomes.Refused StarsBehindText
outcome EscapedStars = outcomes.Nothing
outcome Open = outcomes.Nothing
outcome Negation = outcomes.Nothing
outcome Range = outcomes.Nothing
outcome (Item item) = outcomes.Nothing
outcome InClass = outcomes.Nothing
outcome (Hyphen item) = outcomes.Nothing
outcome ItemEscape = outcomes.Nothing
outcome (HyphenEscape item) = outcomes.Nothing
outcome (Refused reason) = outcomes.Refused reason

-- what the end of the rule adds to its pattern: the second star of a final `**`
abbrev pub ending : Mode → Text
ending (Units prefix) = []
ending Escape = []
ending (Star prefix) = []
ending (Stars prefix) = star ∷ []
ending EscapedStars = []
ending Open = []
ending Negation = []
ending Range = []
ending (Item item) = []
ending InClass = []
ending (Hyphen item) = []
ending ItemEscape = []
ending (HyphenEscape item) = []
ending (Refused reason) = []
