-- What the parser of a command line returns.
use Rattle.std.specs.Prelude.{◌≡◌, Option, None, Some, Err, map, ⊤}
use Rattle.glob_text.specs.Text.{Text}
use Rattle.globs.specs.Chosen.{Chosen}
use Rattle.globs.specs.Options.{value_taken}
use Rattle.globs.specs.Reading.{Reading, Asks, Page, Wrong, Request, Runs, Helps, VersionLine, Refused}
use Rattle.globs.specs.declared.command.Asked.{Asked}
use Rattle.globs.specs.declared.command.Command.{Command}
use Rattle.globs.specs.declared.command.Command.TheVariants as command
use Rattle.globs.specs.declared.options.Valued.{Valued}
use Rattle.globs.specs.declared.usage.UsageFault.{UsageFault}
use Rattle.globs.specs.declared.usage.UsageFault.TheVariants.{Word, Memory}
use Rattle.globs.specs.declared.usage.UsageLine.{UsageLine}

-- what a command's words ask for: to run it or, with nothing to run, its help page
abbrev pub asked_reading : {A : Type 0} → Option (Asked A) → Reading
asked_reading None = Page
asked_reading (Some asked) = Asks asked.options (map (λ w. w.now) asked.operands.now)

-- the request of a parsed command line
abbrev pub request_of : {A : Type 0} → Command A → Request
request_of (command.Run name asked) = Runs name asked.options (map (λ w. w.now) asked.operands.now)
request_of (command.Help name) = Helps name
request_of command.Version = VersionLine

-- the fault is the wrong word of the reading, or an allocation failed
abbrev pub IsWrong : Reading → UsageFault → Type 0
IsWrong reading (Word w word) = reading ≡ Wrong w word.now
IsWrong reading Memory = ⊤

-- the line is about the wrong word of the request and its command, or an allocation failed
abbrev pub IsWrongRequest : Request → UsageLine → Type 0
IsWrongRequest request line = elim line.fault [
  | Word w word ↦ request ≡ Refused line.name w word.now
  | Memory ↦ ⊤
]

-- the word is not a value of the option, or an allocation failed
abbrev pub IsValueFault : Valued → (word : Text) → Chosen → UsageFault → Type 0
IsValueFault option text o (Word w word) = (value_taken option text o ≡ Err w) × (word.now ≡ text)
IsValueFault option text o Memory = ⊤
