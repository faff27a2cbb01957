-- Which records patterns match.
use Rattle.std.specs.Prelude.{Bool, ◌&&◌, ◌⊎◌, not, if◌then◌else◌, List, Option, ℕ}
use Rattle.std.specs.Str.{is_utf8}
use Rattle.glob_console.specs.Outcomes.{IsRefused}
use Rattle.glob_set.specs.BraceSets.{AreAccepted, AreAlternativesOf}
use Rattle.glob_set.specs.Sets.{Set}
use Rattle.glob_text.specs.Text.{Text}
use Rattle.globs.specs.Copying.{Copies, Input, IsUnread}
use Rattle.globs.specs.Patterns.{is_any_match, set_of}
use Rattle.globs.specs.declared.options.Settings.{Settings}

-- the record is UTF-8, and some pattern matches it
abbrev pub is_record_match : Set → (bytes : List ℕ) → Bool
is_record_match set bytes = is_utf8 bytes && is_any_match set bytes

-- some pattern matches the record or, inverted, no pattern does
abbrev pub is_chosen : Set → (inverts : Bool) → (bytes : List ℕ) → Bool
is_chosen set inverts bytes = if inverts then not (is_record_match set bytes) else is_record_match set bytes

-- Either the patterns are refused before anything is read or written, or all are accepted, and the records that some
-- pattern matches (inverted: that no pattern matches) were copied.
unfoldable pub CopiesChosen : {W : Type 0} → (contents : W → Option (List ℕ)) → Settings → (patterns : List Text)
    → Input → (old new : W) → (status : ℕ) → Type 0
CopiesChosen contents settings patterns input old new status =
    (IsUnread input × IsRefused old new status)
    ⊎ (AreAccepted patterns
    × Copies settings.end (is_chosen (set_of settings.options patterns) settings.inverts)
    input (contents old) (contents new) status)

-- Either the words are refused before anything is read or written, or their alternatives are the patterns of the copy.
unfoldable pub CopiesMatches : {W : Type 0} → (contents : W → Option (List ℕ)) → Settings → (words : List Text) → Input
    → (old new : W) → (status : ℕ) → Type 0
CopiesMatches contents settings words input old new status =
    (IsUnread input × IsRefused old new status)
    ⊎ ((patterns : List Text) × AreAlternativesOf words patterns
    × CopiesChosen contents settings patterns input old new status)
