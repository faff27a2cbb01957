-- The records of escaped texts.
use Rattle.std.specs.Prelude.{◌≡◌, ℕ, ◌⊎◌, List, [], ◌∷◌, ◌++◌, Option, chars, encode_utf8}
use Rattle.std.specs.Io.KnownBytes.{Keeps}
use Rattle.glob_console.specs.Outcomes.{WritesText}
use Rattle.glob_set.specs.BraceEscaping.{StandsFor, escaped_text}
use Rattle.glob_text.specs.Text.{Text}

-- the pattern that matches the text literally, even after braces are expanded, and the character that ends each record
abbrev pub IsEscapedRecord : (end : ℕ) → (text written : Text) → Type 0
IsEscapedRecord end text written =
    (escaped : Text) × (chars escaped ≡ escaped_text (chars text)) × StandsFor escaped text
    × (written ≡ escaped ++ encode_utf8 end)

-- such a record for each text, in order
abbrev pub AreEscaped : (end : ℕ) → (texts : List Text) → (records : Text) → Type 0
AreEscaped end [] records = records ≡ []
AreEscaped end (text ∷ texts) records =
    (first : Text) × (rest : Text) × IsEscapedRecord end text first × AreEscaped end texts rest
    × (records ≡ first ++ rest)

-- The records were written, and the status is 0; or the status is 2, and only their first bytes were written, perhaps
-- none.
unfoldable pub WritesEscaped : (end : ℕ) → (texts : List Text) → (old new : Option (List ℕ)) → (status : ℕ) → Type 0
WritesEscaped end texts old new status =
    ((status ≡ 2) × Keeps old new)
    ⊎ ((records : Text) × AreEscaped end texts records × WritesText records old new status)
