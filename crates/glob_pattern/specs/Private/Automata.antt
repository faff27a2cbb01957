-- The automaton of the first tokens of a list.
use Rattle.std.specs.Prelude.{◌+◌, ◌*◌, ◌<◌, ◌≤◌, ℕ, List, length, map, take}
use Rattle.std.specs.Int.{IsBitSet}
use Rattle.glob_pattern.specs.Grammar.Tokens.{Token, shape_of}
use Rattle.glob_pattern.specs.Private.CharMasks.{AreCharMasks}
use Rattle.glob_pattern.specs.Private.Positions.{IsShapeWord, AreShapeWords, EndsFreely, word_before}
use Rattle.glob_pattern.specs.declared.pattern.automaton.Automaton.{Automaton}

-- the automaton has the shapes and the masks of the tokens before `end`, and a bit for the last one only if it may end
-- anywhere
pub record IsAutomaton {A : Type 0} (tokens : List Token) (end : ℕ) (a : Automaton A) : Type 0 where
  pub within : end ≤ length tokens
  pub first_word : IsShapeWord (map shape_of tokens) end 0 a.first
  pub all_words : 63 < end → AreShapeWords (map shape_of tokens) end a.words.items
  pub accepting : (j : ℕ) → IsBitSet a.accepting j → EndsFreely (map shape_of tokens) end (63 * word_before end + j)
  pub masked : (count : ℕ) → end ≤ 63 * count → 63 * count < end + 63
      → AreCharMasks (take end tokens) count a.masks
