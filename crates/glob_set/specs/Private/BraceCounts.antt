-- Numbers of alternatives, which stop at the largest `usize`.
use Rattle.std.specs.Prelude.{◌≡◌, ℕ, ◌-◌, ◌^◌, ◌≤◌, min, true, false, List, [], ◌∷◌, ◌++◌, length}
use Rattle.glob_text.specs.Text.{Text}
use Rattle.glob_set.specs.declared.braces.counting.Opened.{Opened}
use Rattle.glob_set.specs.declared.braces.lexemes.Lexeme.{Lexeme}
use Rattle.glob_set.specs.declared.braces.lexemes.Lexeme.TheVariants.{Open}
use Rattle.glob_set.specs.Braces.{HasAlternatives, HasEnded}

-- the largest `usize`
abbrev pub largest : ℕ
largest = 2 ^ 64 - 1

-- the count is the number, or the largest `usize` if the number is larger
abbrev pub IsCount : (count number : ℕ) → Type 0
IsCount count number = count ≡ min number largest

-- the count is that of the texts, and there is at least one
abbrev pub IsCountOf : (count : ℕ) → List Text → Type 0
IsCountOf count texts = IsCount count (length texts) × (1 ≤ length texts)

-- balanced lexemes with this many alternatives
abbrev pub CountsAlternatives : List Lexeme → (count : ℕ) → Type 0
CountsAlternatives lexemes count =
    (ts : List Text) × HasAlternatives true lexemes ts × IsCountOf count ts

-- in a `{` there are branches ended by commas, with `found` alternatives, and one more with `count`
pub record CountsGroup (inner : List Lexeme) (found count : ℕ) : Type 0 where
  pub ended : List Lexeme
  pub last : List Lexeme
  pub ended_texts : List Text
  pub last_texts : List Text
  pub is : inner ≡ ended ++ last
  pub has_ended : HasEnded ended ended_texts
  pub has_last : HasAlternatives false last last_texts
  pub found_is : IsCount found (length ended_texts)
  pub count_is : IsCountOf count last_texts

-- the lexemes so far, with the open `{`, the last one first
abbrev pub CountsSoFar : List Lexeme → (count : ℕ) → List Opened → Type 0
CountsSoFar lexemes count [] = CountsAlternatives lexemes count
CountsSoFar lexemes count (o ∷ os) =
    (l : List Lexeme) × (inner : List Lexeme) × (lexemes ≡ l ++ Open ∷ inner) × (length l ≡ o.place)
    × CountsSoFar l o.before os × CountsGroup inner o.found count
