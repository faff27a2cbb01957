-- What a match returns.
use Rattle.std.specs.Prelude.{◌≡◌, ℕ, ◌≤◌, ◌<◌, List, IsUtf8, chars, bit_and}
use Rattle.glob_pattern.specs.Matching.Short.{IsShort}
use Rattle.glob_pattern.specs.Matching.Texts.{Matches}
use Rattle.glob_c.specs.Answers.{no, yes, out_of_memory, not_utf8, too_short, unknown_flag}
use Rattle.glob_pattern.specs.Matching.Options.{options_of_bits}

-- if the flag 8 is set, the text is UTF-8
abbrev pub IsPromised : ℕ → List ℕ → Type 0
IsPromised flags text = ¬ (bit_and flags 8 ≡ 0) → IsUtf8 text

-- the number says whether the pattern matches the text, or why nothing was matched
pub record Answers (pattern text : List ℕ) (flags answer : ℕ) : Type 0 where
  pub range : answer ≤ unknown_flag
  pub not_short : ¬ (answer ≡ too_short)
  pub yes : answer ≡ yes → Matches (options_of_bits flags) (chars pattern) (chars text)
  pub no : answer ≡ no → ¬ (Matches (options_of_bits flags) (chars pattern) (chars text))
  pub utf8 : answer < not_utf8 → IsUtf8 text
  pub short : IsShort (chars pattern) → ¬ (answer ≡ out_of_memory)
  pub not_utf8 : answer ≡ not_utf8 → ¬ (IsUtf8 text)
  pub known : ¬ (answer ≡ unknown_flag) → flags ≤ 15
  pub unknown : answer ≡ unknown_flag → 15 < flags
