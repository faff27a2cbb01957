-- The table of a pattern's tokens and a text: which token takes which character.
use Rattle.std.specs.Prelude.{ℕ, zero, suc, ◌==◌, Bool, List, length, slice_index, slice_index_or}
use Rattle.glob_text.specs.Characters.{slash}
use Rattle.glob_text.specs.Text.{Text, opens}
use Rattle.glob_pattern.specs.Grammar.Tokens.{Token}
use Rattle.glob_pattern.specs.Matching.Taking.{takes}
use Rattle.glob_pattern.specs.Matching.Splits.{Table}
use Rattle.glob_pattern.specs.declared.options.MatchOptions.{MatchOptions}
use Rattle.glob_pattern.specs.declared.token.Token.TheVariants.{AnyChar}

-- The table of tokens and a text. Nobody asks past the last token or the last character.
unfoldable pub table_of : MatchOptions → List Token → Text → Table
table_of o tokens text = record {
  characters = length text;
  tokens = length tokens;
  opens = opens text;
  takes = λ token place.
      takes o (opens text place) (slice_index text place) (slice_index_or tokens token AnyChar);
}

-- a component begins at this place of a part of a text; `opening`: one begins at its start
abbrev pub opens_within : (opening : Bool) → Text → ℕ → Bool
opens_within opening part zero = opening
opens_within opening part (suc k) = slice_index part k == slash

-- the table of a part of a text; `opening`: a component begins at its start
unfoldable pub table_within : (opening : Bool) → MatchOptions → List Token → Text → Table
table_within opening o tokens part = record {
  characters = length part;
  tokens = length tokens;
  opens = opens_within opening part;
  takes = λ token place.
      takes o (opens_within opening part place) (slice_index part place) (slice_index_or tokens token AnyChar);
}
