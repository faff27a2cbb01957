-- The fault of a text that is not accepted as a pattern: its place and its message.
use Rattle.std.specs.Prelude.{◌≡◌, ℕ, ◌+◌, ◌-◌, ◌<◌, not, if◌then◌else◌, List, length, codes, bytes_eq, ⊤}
use Rattle.glob_pattern.specs.Grammar.Characters.{star}
use Rattle.glob_text.specs.Text.{Text, opens, has}
use Rattle.glob_pattern.specs.Grammar.Tokens.{Token}
use Rattle.glob_pattern.specs.Grammar.Units.{UnitAt, UnitsBetween}
use Rattle.glob_pattern.specs.declared.error.PatternErrorKind.{PatternErrorKind}
use Rattle.glob_pattern.specs.declared.error.PatternErrorKind.TheVariants.{Wildcards, Recursive, Range}
use Rattle.glob_pattern.specs.declared.error.PatternRefusal.{PatternRefusal}
use Rattle.glob_pattern.specs.declared.error.PatternRefusal.TheVariants.{Syntax, Memory}

-- the messages: for three or more stars, for two stars that are not a whole component, and for an unclosed bracket
abbrev pub message_of : PatternErrorKind → List ℕ
message_of Wildcards = codes "wildcards are either regular `*` or recursive `**`"
message_of Recursive = codes "recursive wildcards must form a single path component"
message_of Range = codes "invalid range pattern"

-- the number of a kind, for C and the web page
abbrev pub number_of : PatternErrorKind → ℕ
number_of Wildcards = 0
number_of Recursive = 1
number_of Range = 2

-- the kind with this message, or else `Range`
abbrev pub kind_of : (message : List ℕ) → PatternErrorKind
kind_of message =
    if bytes_eq message (message_of Wildcards) then Wildcards
    else if bytes_eq message (message_of Recursive) then Recursive
    else Range

-- a place, in characters from 0, and a message
pub record Fault : Type 0 where
  pub place : ℕ
  pub message : List ℕ

-- The fault at place f, where a unit should begin and none does: an unclosed `[`, or stars. Three or more stars are
-- reported at the third. Two stars that are not a whole component are reported at the character before them, if that is
-- the cause, or else right after them.
abbrev pub fault_at : Text → ℕ → Fault
fault_at text f =
    if not (has text f star) then record { place = f; message = message_of Range }
    else if has text (f + 2) star then record { place = f + 2; message = message_of Wildcards }
    else if not (opens text f) then record { place = f - 1; message = message_of Recursive }
    else record { place = f + 2; message = message_of Recursive }

-- no unit begins at place f
abbrev pub NoUnitAt : Text → ℕ → Type 0
NoUnitAt text f = (t : Token) (e : ℕ) → ¬ (UnitAt text f t e)

-- the first fault from the left: there are units up to a place before the end, where none begins
unfoldable pub IsFault : Text → Fault → Type 0
IsFault text fault =
    (f : ℕ) × (units : List Token)
    × UnitsBetween text 0 units f × (f < length text) × NoUnitAt text f × (fault ≡ fault_at text f)

-- what a refusal of the text reports: its fault, or a failed allocation
abbrev pub Refuses : Text → PatternRefusal → Type 0
Refuses text (Syntax e) = IsFault text (record { place = e.pos; message = e.msg.now })
Refuses text Memory = ⊤
