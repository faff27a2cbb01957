-- The computed tokens of an accepted pattern are those of the grammar.
use Rattle.std.proofs.Common.{◌≡◌, List, [], sym, ap, subst}
use Rattle.std.specs.Result.{result_unwrap_or}
use Rattle.glob_text.specs.Text.{Text}
use Rattle.glob_pattern.specs.Grammar.Tokens.{Token}
use Rattle.glob_pattern.specs.Grammar.Units.{HasTokens}
use Rattle.glob_pattern.specs.Computing.Tokens.{tokens_of}
use Rattle.glob_pattern.proofs.GrammarLemmas.Reading.{reading_of-HasTokens}

-- they are those that the grammar reads
pub tokens_of-HasTokens : (pattern : Text) (tokens : List Token) → HasTokens pattern tokens → tokens_of pattern ≡ tokens
unfolding tokens_of
tokens_of-HasTokens pattern tokens has = ap (λ r. result_unwrap_or r []) (reading_of-HasTokens pattern tokens has)

-- and the grammar reads them
pub HasTokens-tokens_of : (pattern : Text) (tokens : List Token) → HasTokens pattern tokens → HasTokens pattern (tokens_of pattern)
HasTokens-tokens_of pattern tokens has = subst (HasTokens pattern) (sym (tokens_of-HasTokens pattern tokens has)) has
