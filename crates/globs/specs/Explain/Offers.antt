-- What is offered in place of a pattern. Each offer was tried against the text.
use Rattle.std.specs.Prelude.{◌≡◌, ◌++◌, ◌⊎◌, [], chars, codes}
use Rattle.glob_pattern.specs.Grammar.Units.{IsAccepted}
use Rattle.glob_pattern.specs.Matching.Texts.{Matches}
use Rattle.glob_pattern.specs.declared.options.MatchOptions.{MatchOptions}
use Rattle.glob_text.specs.Text.{Text}
use Rattle.globs.specs.Find.Leads.{below_lead, lead_of}

-- the line of an offer that matches the text
abbrev pub matching_words : (pattern : Text) → Text
matching_words pattern = codes "write instead: " ++ (pattern ++ codes "\n")

-- the line of an offer that does not match
abbrev pub other_words : (pattern : Text) → Text
other_words pattern = codes "write instead: " ++ (pattern ++ codes ", which does not match this text\n")

-- the line of a pattern that lets `find` find the text
abbrev pub find_words : (pattern : Text) → Text
find_words pattern = codes "for find write: " ++ (pattern ++ codes "\n")

-- Nothing is offered, or a pattern that matches the text under the options, or a valid pattern with a line that says
-- that it does not match.
unfoldable pub IsOffer : MatchOptions → (text line : Text) → Type 0
IsOffer o text line =
    (line ≡ [])
    ⊎ (((pattern : Text) × Matches o (chars pattern) (chars text) × (line ≡ matching_words pattern))
    ⊎ ((pattern : Text) × IsAccepted (chars pattern) × (line ≡ other_words pattern)))

-- nothing is offered for `find`, or a pattern with the lead of the text that matches what follows it under these
-- options
unfoldable pub IsFindOffer : MatchOptions → (text line : Text) → Type 0
IsFindOffer o text line =
    (line ≡ [])
    ⊎ ((pattern : Text) × Matches o (chars pattern) (chars (below_lead text))
    × (line ≡ find_words (lead_of text ++ pattern)))
