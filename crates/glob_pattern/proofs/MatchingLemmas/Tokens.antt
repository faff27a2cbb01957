-- A pattern matches exactly what its tokens match.
use Rattle.std.proofs.Common.{◌≡◌, ◌<◌, ◌↔◌, List, length, ap, subst, arith}
use Rattle.glob_text.specs.Text.{Text}
use Rattle.glob_pattern.specs.Grammar.Tokens.{Token}
use Rattle.glob_pattern.specs.Grammar.Units.{HasTokens}
use Rattle.glob_pattern.specs.Matching.Texts.{Matches, TokensMatch}
use Rattle.glob_pattern.specs.declared.options.MatchOptions.{MatchOptions}
use Rattle.glob_pattern.proofs.GrammarLemmas.Accepted.{one_reading}
use Rattle.glob_pattern.proofs.MatchingLemmas.Matched.{match_by_tokens, tokens_of_match}
use Rattle.glob_pattern.specs.Matching.Short.{IsShort}

-- a text that the pattern matches is matched by its tokens
pub TokensMatch-by_pattern : (o : MatchOptions) (pattern text : Text) (tokens : List Token) → HasTokens pattern tokens
    → Matches o pattern text → TokensMatch o tokens text
TokensMatch-by_pattern o pattern text tokens read matches =
    let has = tokens_of_match o pattern text matches in
    subst (λ ts. TokensMatch o ts text) (one_reading pattern has.0 tokens has.1 read) has.2

-- the pattern matches what its tokens match
pub Matches-iff_tokens : (o : MatchOptions) (pattern text : Text) (tokens : List Token) → HasTokens pattern tokens
    → TokensMatch o tokens text ↔ Matches o pattern text
Matches-iff_tokens o pattern text tokens read = (
  match_by_tokens o pattern text tokens read,
  TokensMatch-by_pattern o pattern text tokens read,
)

-- a short pattern has few tokens
pub tokens_are_few : (pattern : Text) (tokens : List Token) → HasTokens pattern tokens → IsShort pattern → length tokens < 64
unfolding IsShort
tokens_are_few pattern tokens read (others, has, few) =
    let same : tokens ≡ others = one_reading pattern tokens others read has in
    omega (arith, ap length same, few)
