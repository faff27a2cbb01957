-- Which patterns of a set match a text.
use Rattle.std.specs.Prelude.{ℕ, zero, suc, ◌<◌, List, [], ◌∷◌, ◌++◌, length, slice_index_or, Option, Some, None, cond, ⊤}
use Rattle.std.specs.Str.{chars}
use Rattle.glob_text.specs.Text.{Text}
use Rattle.glob_pattern.specs.Grammar.Units.{IsAccepted}
use Rattle.glob_pattern.specs.Grammar.Faults.{IsFault}
use Rattle.glob_pattern.specs.Matching.Texts.{Matches}
use Rattle.glob_pattern.specs.Matching.Short.{IsShort}
use Rattle.glob_pattern.specs.Computing.Deciding.{is_match}
use Rattle.glob_pattern.specs.declared.options.MatchOptions.{MatchOptions}
use Rattle.glob_pattern.specs.declared.error.PatternRefusal.{PatternRefusal}
use Rattle.glob_pattern.specs.declared.error.PatternRefusal.TheVariants as pattern
use Rattle.glob_set.specs.declared.error.SetRefusal.{SetRefusal}
use Rattle.glob_set.specs.declared.error.SetRefusal.TheVariants.{Syntax, Memory}

-- the texts of the patterns of a set, and the options that they match by
pub record Set : Type 0 where
  pub patterns : List Text
  pub options : MatchOptions

-- pattern `number` exists and matches the text
unfoldable pub MatchesAt : MatchOptions → (patterns : List Text) → (text : Text) → (number : ℕ) → Type 0
MatchesAt o patterns text number =
    (number < length patterns) × Matches o (chars (slice_index_or patterns number [])) (chars text)

-- one of the patterns matches the text
unfoldable pub AnyMatch : MatchOptions → (patterns : List Text) → (text : Text) → Type 0
AnyMatch o patterns text = (number : ℕ) × MatchesAt o patterns text number

-- the number of the first pattern that matches the text, or `None` if none does
unfoldable pub FirstMatch : MatchOptions → (patterns : List Text) → (text : Text) → Option ℕ → Type 0
FirstMatch o patterns text None = ¬ (AnyMatch o patterns text)
FirstMatch o patterns text (Some number) =
    MatchesAt o patterns text number
    × ((before : ℕ) → before < number → ¬ (MatchesAt o patterns text before))

-- the number of the last pattern that matches the text, or `None` if none does
unfoldable pub LastMatch : MatchOptions → (patterns : List Text) → (text : Text) → Option ℕ → Type 0
LastMatch o patterns text None = ¬ (AnyMatch o patterns text)
LastMatch o patterns text (Some number) =
    MatchesAt o patterns text number
    × ((after : ℕ) → number < after → ¬ (MatchesAt o patterns text after))

-- the numbers below n of the patterns that match the text, in ascending order
abbrev pub matches_below : MatchOptions → (patterns : List Text) → (text : Text) → (n : ℕ) → List ℕ
matches_below o patterns text zero = []
matches_below o patterns text (suc n) =
    cond (is_match o (chars (slice_index_or patterns n [])) (chars text))
    (matches_below o patterns text n ++ n ∷ [])
    (matches_below o patterns text n)

-- the numbers of all patterns that match the text, in ascending order
unfoldable pub all_matches : MatchOptions → (patterns : List Text) → (text : Text) → List ℕ
all_matches o patterns text = matches_below o patterns text (length patterns)

-- all patterns have at most 63 tokens
unfoldable pub AreShort : (patterns : List Text) → Type 0
AreShort patterns =
    (number : ℕ) → number < length patterns → IsShort (chars (slice_index_or patterns number []))

-- What the error for a list of texts reports: the number and the fault of the first text that is not accepted, or a
-- failed allocation.
unfoldable pub RefusesTexts : (texts : List Text) → SetRefusal → Type 0
RefusesTexts texts (Syntax number e) =
    (number < length texts)
    × ((before : ℕ) → before < number → IsAccepted (chars (slice_index_or texts before [])))
    × IsFault (chars (slice_index_or texts number [])) (record { place = e.pos; message = e.msg.now })
RefusesTexts texts Memory = ⊤

-- the error for the text at index `number`
abbrev pub refusal_of : (number : ℕ) → PatternRefusal → SetRefusal
refusal_of number (pattern.Syntax e) = Syntax number e
refusal_of number pattern.Memory = Memory
