-- The patterns of a set that are asked about a text, and their answers.
use Rattle.std.specs.Prelude.{ℕ, ◌<◌, ◌⊎◌, min, max, List, length, Option, Some, None, All, Contains}
use Rattle.std.specs.List.Sorted.{IsNonDecreasing}
use Rattle.glob_text.specs.Text.{Text}
use Rattle.glob_pattern.specs.declared.options.MatchOptions.{MatchOptions}
use Rattle.glob_set.specs.Sets.{MatchesAt}

-- two ascending lists of pattern numbers; each pattern that matches the text is in one of them
pub record AreAsked (o : MatchOptions) (patterns : List Text) (text : Text) (listed found : List ℕ) : Type 0 where
  pub listed_within : All (λ k. k < length patterns) listed
  pub found_within : All (λ k. k < length patterns) found
  pub listed_order : IsNonDecreasing listed
  pub found_order : IsNonDecreasing found
  pub all : (k : ℕ) → MatchesAt o patterns text k → Contains listed k ⊎ Contains found k

-- the numbers of exactly the patterns that match the text, in any order
unfoldable pub AreMatches : MatchOptions → (patterns : List Text) → (text : Text) → (numbers : List ℕ) → Type 0
AreMatches o patterns text numbers =
    ((k : ℕ) → Contains numbers k → MatchesAt o patterns text k)
    × ((k : ℕ) → MatchesAt o patterns text k → Contains numbers k)

-- the lowest of the numbers whose pattern matches the text, or `None` if there is none
unfoldable pub IsFirstOf : MatchOptions → (patterns : List Text) → (text : Text) → (numbers : List ℕ) → Option ℕ → Type 0
IsFirstOf o patterns text numbers None = (k : ℕ) → Contains numbers k → ¬ (MatchesAt o patterns text k)
IsFirstOf o patterns text numbers (Some number) =
    MatchesAt o patterns text number
    × ((k : ℕ) → Contains numbers k → k < number → ¬ (MatchesAt o patterns text k))

-- the highest of the numbers whose pattern matches the text, or `None` if there is none
unfoldable pub IsLastOf : MatchOptions → (patterns : List Text) → (text : Text) → (numbers : List ℕ) → Option ℕ → Type 0
IsLastOf o patterns text numbers None = (k : ℕ) → Contains numbers k → ¬ (MatchesAt o patterns text k)
IsLastOf o patterns text numbers (Some number) =
    MatchesAt o patterns text number
    × ((k : ℕ) → Contains numbers k → number < k → ¬ (MatchesAt o patterns text k))

-- the lower of two numbers, or the only one, or none
abbrev pub earlier : Option ℕ → Option ℕ → Option ℕ
earlier (Some one) (Some other) = Some (min one other)
earlier (Some one) None = Some one
earlier None other = other

-- the higher of two numbers, or the only one, or none
abbrev pub later : Option ℕ → Option ℕ → Option ℕ
later (Some one) (Some other) = Some (max one other)
later (Some one) None = Some one
later None other = other
