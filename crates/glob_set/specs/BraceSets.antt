-- Sets of all alternatives of texts with braces.
use Rattle.std.specs.Prelude.{◌≡◌, ℕ, ◌<◌, List, [], ◌∷◌, ◌++◌, length, slice_index_or, ⊤}
use Rattle.std.specs.Str.{chars}
use Rattle.glob_text.specs.Text.{Text}
use Rattle.glob_pattern.specs.Grammar.Units.{IsAccepted}
use Rattle.glob_pattern.specs.Matching.Texts.{Matches}
use Rattle.glob_pattern.specs.declared.options.MatchOptions.{MatchOptions}
use Rattle.glob_set.specs.Braces.{lexemes, AreAlternatives, IsAlternative, IsBraceFault}
use Rattle.glob_set.specs.Sets.{RefusesTexts}
use Rattle.glob_set.specs.declared.braces.error.BraceRefusal.{BraceRefusal}
use Rattle.glob_set.specs.declared.braces.error.BraceRefusal.TheVariants as braces
use Rattle.glob_set.specs.declared.error.SetRefusal.{SetRefusal}
use Rattle.glob_set.specs.declared.error.SetRefusal.TheVariants as set
use Rattle.glob_set.specs.declared.error.BraceSetRefusal.{BraceSetRefusal}
use Rattle.glob_set.specs.declared.error.BraceSetRefusal.TheVariants.{Braces, Pattern, Memory}

-- the alternatives of all texts, text by text
abbrev pub AreAlternativesOf : (texts alternatives : List Text) → Type 0
AreAlternativesOf [] alternatives = alternatives ≡ []
AreAlternativesOf (text ∷ texts) alternatives =
    (first : List Text) × (rest : List Text) × AreAlternatives (chars text) first
    × AreAlternativesOf texts rest × (alternatives ≡ first ++ rest)

-- an alternative of one of the texts matches the text
unfoldable pub AnyAlternativeMatches : MatchOptions → (texts : List Text) → (text : Text) → Type 0
AnyAlternativeMatches o texts text =
    (number : ℕ) × (alternative : Text) × (number < length texts)
    × IsAlternative (chars (slice_index_or texts number [])) alternative
    × Matches o (chars alternative) (chars text)

-- all texts are accepted
unfoldable pub AreAccepted : (texts : List Text) → Type 0
AreAccepted texts = (number : ℕ) → number < length texts → IsAccepted (chars (slice_index_or texts number []))

-- the braces of the text are balanced, and its alternatives are accepted
unfoldable pub HasPatterns : (text : Text) → Type 0
HasPatterns text =
    (alternatives : List Text) × AreAlternatives (chars text) alternatives × AreAccepted alternatives

-- What a refusal reports for the text at index `number`: the fault of its braces, or the number and the fault of its
-- first alternative that is not accepted, or a failed allocation.
unfoldable pub RefusesText : (text : Text) → (number : ℕ) → BraceSetRefusal → Type 0
RefusesText text number (Braces n fault) = (n ≡ number) × IsBraceFault (lexemes (chars text)) fault
RefusesText text number (Pattern n alternative e) =
    (n ≡ number) × ((alternatives : List Text) × AreAlternatives (chars text) alternatives
    × RefusesTexts alternatives (set.Syntax alternative e))
RefusesText text number Memory = ⊤

-- what a refusal of the texts reports: the fault of the first text that has one, or a failed allocation
unfoldable pub RefusesBraceTexts : (texts : List Text) → BraceSetRefusal → Type 0
RefusesBraceTexts texts Memory = ⊤
RefusesBraceTexts texts (Braces number fault) =
    (number < length texts)
    × ((before : ℕ) → before < number → HasPatterns (slice_index_or texts before []))
    × RefusesText (slice_index_or texts number []) number (Braces number fault)
RefusesBraceTexts texts (Pattern number alternative e) =
    (number < length texts)
    × ((before : ℕ) → before < number → HasPatterns (slice_index_or texts before []))
    × RefusesText (slice_index_or texts number []) number (Pattern number alternative e)

-- the error for the braces of the text at index `number`
abbrev pub of_braces : (number : ℕ) → BraceRefusal → BraceSetRefusal
of_braces number (braces.Syntax fault) = Braces number fault
of_braces number braces.Memory = Memory

-- the error for an alternative of the text at index `number`
abbrev pub of_alternatives : (number : ℕ) → SetRefusal → BraceSetRefusal
of_alternatives number (set.Syntax alternative e) = Pattern number alternative e
of_alternatives number set.Memory = Memory
