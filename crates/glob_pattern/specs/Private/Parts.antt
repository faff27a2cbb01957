-- Parts of a text, and which tokens split them.
use Rattle.std.specs.Prelude.{◌≡◌, ℕ, ◌+◌, ◌-◌, ◌↔◌, Bool, List, ◌++◌, chars, drop, length, map}
use Rattle.std.specs.Str.{IsUtf8}
use Rattle.glob_text.specs.Text.{Text}
use Rattle.glob_pattern.specs.Grammar.Tokens.{Token, shape_of}
use Rattle.glob_pattern.specs.Matching.Texts.{TokensMatch}
use Rattle.glob_pattern.specs.Private.Prefixes.{PrefixSplits}
use Rattle.glob_pattern.specs.Private.TextTable.{table_within}
use Rattle.glob_pattern.specs.declared.options.MatchOptions.{MatchOptions}

-- the first n of the tokens split the part; `opening`: a component begins at its start
unfoldable pub SplitsPart : MatchOptions → (opening : Bool) → List Token → (n : ℕ) → (part : Text) → Type 0
SplitsPart o opening tokens n part = PrefixSplits (table_within opening o tokens part) (map shape_of tokens) n (length part)

-- the tokens take the start of the part, and leave the rest to the tokens after them; `left`: a component begins at the
-- start of the rest
abbrev pub TakesFirst : MatchOptions → List Token → (opening : Bool) → (part : Text) → (left : Bool) → (rest : Text) → Type 0
TakesFirst o tokens opening part left rest =
    (more : List Token) (n m : ℕ) → m ≡ length tokens + n
    → SplitsPart o opening (tokens ++ more) m part ↔ SplitsPart o left more n rest

-- the tokens take the end of the part, and leave the rest to the tokens before them
abbrev pub TakesLast : MatchOptions → List Token → (opening : Bool) → (part rest : Text) → Type 0
TakesLast o tokens opening part rest =
    (front more : List Token) (n m : ℕ) → n ≡ length front → m ≡ n + length tokens
    → SplitsPart o opening (front ++ (tokens ++ more)) m part ↔ SplitsPart o opening (front ++ (tokens ++ more)) n rest

-- A part of a text, as bytes, is left to the tokens from number `from` up to `end`: all tokens match the text exactly
-- if these split the part. Each of the others takes one character.
pub record Leaves (o : MatchOptions) (tokens : List Token) (text : List ℕ) (from end : ℕ) (part : List ℕ) (opening : Bool) : Type 0 where
  pub utf8 : IsUtf8 part
  pub count : length (chars text) ≡ length (chars part) + (from + (length tokens - end))
  pub match : TokensMatch o tokens (chars text) ↔ SplitsPart o opening (drop from tokens) (end - from) (chars part)
