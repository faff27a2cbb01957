-- Which single changes of the options, the pattern or the text give a match, and the lines that say so.
use Rattle.std.specs.Prelude.{◌≡◌, ◌++◌, ◌⊎◌, ℕ, List, [], ◌∷◌, All, Contains, false, chars, codes}
use Rattle.std.specs.Str.{trim_end}
use Rattle.std.specs.StrCase.Lower.{str_to_lowercase}
use Rattle.glob_pattern.specs.Matching.Texts.{Matches}
use Rattle.glob_pattern.specs.declared.options.MatchOptions.{MatchOptions}
use Rattle.globs.specs.declared.explain.hints.TheConstants.{CHANGES}
use Rattle.globs.specs.declared.explain.hints.Change.{Change}
use Rattle.globs.specs.declared.explain.hints.Change.TheVariants.{EitherCase, AnySeparator, AnyDot, PatternHere}
use Rattle.globs.specs.declared.explain.hints.Change.TheVariants.{TextHere, NotBelow, PatternEnd, TextEnd, LowerCase}

-- the pattern is valid, and matches the text
abbrev pub IsMatch : MatchOptions → (pattern text : List ℕ) → Type 0
IsMatch o pattern text = Matches o (chars pattern) (chars text)

-- the change can be made, and after it the pattern matches the text
abbrev pub GivesMatch : Change → MatchOptions → (pattern text : List ℕ) → Type 0
GivesMatch EitherCase o pattern text = IsMatch (record o { case_sensitive = false }) pattern text
GivesMatch AnySeparator o pattern text = IsMatch (record o { require_literal_separator = false }) pattern text
GivesMatch AnyDot o pattern text = IsMatch (record o { require_literal_leading_dot = false }) pattern text
GivesMatch PatternHere o pattern text = (rest : List ℕ) × (pattern ≡ 46 ∷ 47 ∷ rest) × IsMatch o rest text
GivesMatch TextHere o pattern text = (rest : List ℕ) × (text ≡ 46 ∷ 47 ∷ rest) × IsMatch o pattern rest
GivesMatch NotBelow o pattern text = (above : List ℕ) × (pattern ≡ above ++ codes "/**") × IsMatch o above text
GivesMatch PatternEnd o pattern text = IsMatch o (trim_end pattern) text
GivesMatch TextEnd o pattern text = IsMatch o pattern (trim_end text)
GivesMatch LowerCase o pattern text =
    (o.case_sensitive ≡ false) × IsMatch o (str_to_lowercase pattern) (str_to_lowercase text)

-- the words of the line about a change
abbrev pub change_words : Change → List ℕ
change_words EitherCase = codes "it matches with -i"
change_words AnySeparator = codes "it matches without -s, but find has no such option"
change_words AnyDot = codes "it matches without -d"
change_words PatternHere = codes "it matches without ./ before the pattern"
change_words TextHere = codes "it matches without ./ before the text"
change_words NotBelow = codes "it matches without /**, which takes only what is below"
change_words PatternEnd = codes "it matches without white space at the end of the pattern"
change_words TextEnd = codes "it matches without white space at the end of the text"
change_words LowerCase = codes "it matches in lower case, but -i only covers ASCII letters"

-- after the change one of the patterns matches the text
abbrev pub GivesAny : Change → MatchOptions → (patterns : List (List ℕ)) → (text : List ℕ) → Type 0
GivesAny change o patterns text = (pattern : List ℕ) × Contains patterns pattern × GivesMatch change o pattern text

-- after the change none of the patterns matches the text
abbrev pub GivesNone : Change → MatchOptions → (patterns : List (List ℕ)) → (text : List ℕ) → Type 0
GivesNone change o patterns text = All (λ pattern. ¬ (GivesMatch change o pattern text)) patterns

-- exactly the lines of the changes that give a match were added
abbrev pub AddsHints : MatchOptions → (patterns : List (List ℕ)) → (text : List ℕ) → List Change → (old new : List ℕ)
    → Type 0
AddsHints o patterns text [] old new = new ≡ old
AddsHints o patterns text (change ∷ more) old new =
    (GivesAny change o patterns text × AddsHints o patterns text more (old ++ change_words change ++ 10 ∷ []) new)
    ⊎ (GivesNone change o patterns text × AddsHints o patterns text more old new)

-- the lines of the changes that give a match
unfoldable pub AreHints : MatchOptions → (patterns : List (List ℕ)) → (text lines : List ℕ) → Type 0
AreHints o patterns text lines = AddsHints o patterns text CHANGES [] lines
