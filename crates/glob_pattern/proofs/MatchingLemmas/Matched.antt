-- When a pattern matches a text, and what a match has, for proofs in which `Matches`, `TokensMatch` and `IsShort` are
-- opaque.
use Rattle.std.proofs.Common.{◌≡◌, ◌<◌, List, length, arith}
use Rattle.std.specs.List.{concat}
use Rattle.glob_text.specs.Text.{Text}
use Rattle.glob_pattern.specs.Grammar.Tokens.{Token}
use Rattle.glob_pattern.specs.Grammar.Units.{IsAccepted, HasTokens}
use Rattle.glob_pattern.specs.Matching.Short.{IsShort}
use Rattle.glob_pattern.specs.Matching.Texts.{AreAllowed, TokensMatch, Matches}
use Rattle.glob_pattern.specs.declared.options.MatchOptions.{MatchOptions}
use Rattle.glob_pattern.proofs.GrammarLemmas.Accepted.{length-HasTokens}
use Rattle.glob_pattern.proofs.GrammarLemmas.Accepting.{accepted_by_tokens, tokens_of_accepted}

-- Tokens match a text that splits into allowed pieces.
pub tokens_match_by_pieces : (o : MatchOptions) (tokens : List Token) (text : Text) (pieces : List Text)
    → concat pieces ≡ text → AreAllowed o text 0 tokens pieces → TokensMatch o tokens text
unfolding TokensMatch
tokens_match_by_pieces o tokens text pieces is allowed = (pieces, is, allowed)

-- A text that tokens match splits so.
pub pieces_of_match : (o : MatchOptions) (tokens : List Token) (text : Text) → TokensMatch o tokens text →
    (pieces : List Text) × (concat pieces ≡ text) × AreAllowed o text 0 tokens pieces
unfolding TokensMatch
pieces_of_match o tokens text match = match

-- A pattern matches what its tokens match.
pub match_by_tokens : (o : MatchOptions) (pattern text : Text) (tokens : List Token) → HasTokens pattern tokens
    → TokensMatch o tokens text → Matches o pattern text
unfolding Matches
match_by_tokens o pattern text tokens has match = (tokens, has, match)

-- A pattern that matches a text has tokens, which match it.
pub tokens_of_match : (o : MatchOptions) (pattern text : Text) → Matches o pattern text → (tokens : List Token)
    × HasTokens pattern tokens × TokensMatch o tokens text
unfolding Matches
tokens_of_match o pattern text matches = matches

-- A pattern that matches a text is accepted.
pub accepted_by_match : (o : MatchOptions) (pattern text : Text) → Matches o pattern text → IsAccepted pattern
accepted_by_match o pattern text matches = let has = tokens_of_match o pattern text matches in accepted_by_tokens pattern has.0 has.1

-- A pattern of few tokens is short.
pub short_by_tokens : (pattern : Text) (tokens : List Token) → HasTokens pattern tokens → length tokens < 64 → IsShort pattern
unfolding IsShort
short_by_tokens pattern tokens has few = (tokens, has, few)

-- A pattern of few characters is short.
pub short_by_length : (pattern : Text) → IsAccepted pattern → length pattern < 64 → IsShort pattern
short_by_length pattern accepted few =
    let has = tokens_of_accepted pattern accepted in
    let fewer = length-HasTokens pattern has.0 has.1 in
    short_by_tokens pattern has.0 has.1 (omega arith)
