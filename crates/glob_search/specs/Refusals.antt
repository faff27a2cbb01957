-- Which patterns a search refuses.
use Rattle.std.specs.Prelude.{ℕ, ◌<◌, List, [], ◌∷◌, length, slice_index_or, ⊤}
use Rattle.glob_pattern.specs.declared.error.PatternError.{PatternError}
use Rattle.glob_set.specs.BraceSets.{AreAccepted}
use Rattle.glob_set.specs.Sets.{RefusesTexts}
use Rattle.glob_set.specs.declared.error.SetRefusal.{SetRefusal}
use Rattle.glob_set.specs.declared.error.SetRefusal.TheVariants.{Syntax, Memory}
use Rattle.glob_text.specs.Pieces.{pieces}
use Rattle.glob_text.specs.Text.{Text}

-- a pattern is read as a whole, and then each of its components
abbrev pub readings : (pattern : Text) → List Text
readings p = p ∷ pieces p

-- all patterns are accepted, and so are their components
abbrev pub AreSearchable : (patterns : List Text) → Type 0
AreSearchable patterns =
    (number : ℕ) → number < length patterns → AreAccepted (readings (slice_index_or patterns number []))

-- this is the fault of the first text that is not accepted
abbrev pub HasFault : (texts : List Text) → PatternError → Type 0
HasFault texts e = (number : ℕ) × RefusesTexts texts (Syntax number e)

-- What a refusal of patterns reports: the number of the first pattern with a fault, and the fault, or a failed
-- allocation.
abbrev pub RefusesPatterns : (patterns : List Text) → SetRefusal → Type 0
RefusesPatterns patterns (Syntax number e) =
    (number < length patterns)
    × ((before : ℕ) → before < number → AreAccepted (readings (slice_index_or patterns before [])))
    × HasFault (readings (slice_index_or patterns number [])) e
RefusesPatterns patterns Memory = ⊤
