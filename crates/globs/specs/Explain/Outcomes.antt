-- The outcome of an explanation: its status, and what is written.
use Rattle.std.specs.Prelude.{◌≡◌, ◌≢◌, ◌⊎◌, ◌++◌, ℕ, List, [], ◌∷◌, Option, chars, false, true}
use Rattle.std.specs.Io.KnownBytes.{Appends}
use Rattle.glob_console.specs.Outcomes.{IsRefused}
use Rattle.glob_pattern.specs.declared.options.MatchOptions.{MatchOptions}
use Rattle.glob_set.specs.Braces.{AreAlternatives}
use Rattle.glob_set.specs.BraceSets.{AreAccepted}
use Rattle.glob_text.specs.Text.{Text}
use Rattle.globs.specs.Explain.Hints.{AreHints}
use Rattle.globs.specs.Explain.Offers.{IsFindOffer, IsOffer}
use Rattle.globs.specs.Explain.Verdict.{by_find, is_taken, verdict_of, verdict_words}

-- The lines about a text: what `match` and `find` do with it; the pieces that tokens match, or where the match stops;
-- if `match` does not accept it, which single changes give a match; and what to write instead. Nothing is specified
-- about the pieces and the place.
unfoldable pub AreLines : MatchOptions → (patterns : List Text) → (text lines : Text) → Type 0
AreLines o patterns text lines =
    (reasons hints offer deeper : Text)
    × (is_taken o patterns text ≡ false → AreHints o patterns text hints)
    × IsOffer o text offer × IsFindOffer (by_find o) text deeper
    × (lines ≡ verdict_words (verdict_of o patterns text) ++ (10 ∷ (reasons ++ (hints ++ (offer ++ deeper)))))

-- Status 0: some pattern matches the text. Status 1: no pattern does. In both cases the lines were written.
unfoldable pub Explains : MatchOptions → (patterns : List Text) → (text : Text) → (old new : Option (List ℕ))
    → (status : ℕ) → Type 0
Explains o patterns text old new status =
    (status ≡ 0 → is_taken o patterns text ≡ true)
    × (status ≡ 1 → is_taken o patterns text ≡ false)
    × (status ≢ 2 → (lines : Text) × AreLines o patterns text lines × Appends old new lines)

-- The pattern is refused before anything is written, or its alternatives are valid patterns, and the text is explained
-- by them.
unfoldable pub ExplainsWord : {W : Type 0} → (contents : W → Option (List ℕ)) → MatchOptions → (word text : Text)
    → (old new : W) → (status : ℕ) → Type 0
ExplainsWord contents o word text old new status =
    IsRefused old new status
    ⊎ ((patterns : List Text) × AreAlternatives (chars word) patterns × AreAccepted patterns
    × Explains o patterns text (contents old) (contents new) status)

-- The outcome for these operands: a pattern and a text are explained; any other number of operands is refused.
unfoldable pub Answers : {W : Type 0} → (contents : W → Option (List ℕ)) → MatchOptions → (operands : List Text)
    → (old new : W) → (status : ℕ) → Type 0
Answers contents o [] old new status = IsRefused old new status
Answers contents o (pattern ∷ []) old new status = IsRefused old new status
Answers contents o (pattern ∷ text ∷ []) old new status = ExplainsWord contents o pattern text old new status
Answers contents o (pattern ∷ text ∷ extra ∷ more) old new status = IsRefused old new status
