-- Laws of patterns, as statements.
use Rattle.std.specs.Prelude.{◌≡◌, ℕ, ◌<◌, ◌≤◌, Bool, List, [], ◌∷◌, ◌++◌, length, map, slice_index, IsTrue, IsFalse, Decides, ◌↔◌}
use Rattle.std.specs.List.{count_by, list_any, list_all, join_with_byte}
use Rattle.std.specs.Path.{has_no_slash}
use Rattle.glob_text.specs.Characters.{slash}
use Rattle.glob_pattern.specs.Grammar.Characters.{is_wildcard}
use Rattle.glob_text.specs.Text.{Text}
use Rattle.glob_pattern.specs.Grammar.Brackets.{is_same}
use Rattle.glob_pattern.specs.Grammar.Tokens.{Token, tokens_of_units, takes_one}
use Rattle.glob_pattern.specs.Grammar.Units.{IsAccepted}
use Rattle.glob_pattern.specs.Matching.Components.{takes_names, with_separator_rule, AreComponents}
use Rattle.glob_pattern.specs.Matching.Texts.{TokensMatch, Matches}
use Rattle.glob_pattern.specs.Escaping.{escaped_text}
use Rattle.glob_pattern.specs.Computing.Deciding.{tokens_match, is_match}
use Rattle.glob_pattern.specs.declared.options.MatchOptions.{MatchOptions}
use Rattle.glob_pattern.specs.declared.token.Token.TheVariants.{Literal}

-- the loose options have the same case-sensitivity as the strict ones, and no rule that the strict ones lack
abbrev pub IsLooser : MatchOptions → MatchOptions → Type 0
IsLooser strict loose =
    (loose.case_sensitive ≡ strict.case_sensitive)
    × (IsTrue loose.require_literal_separator → IsTrue strict.require_literal_separator)
    × (IsTrue loose.require_literal_leading_dot → IsTrue strict.require_literal_leading_dot)

-- what tokens match under strict rules, they match under looser ones
abbrev pub TokensLoosened : Type 0
TokensLoosened =
    (strict loose : MatchOptions) → IsLooser strict loose → (tokens : List Token) (text : Text)
    → TokensMatch strict tokens text → TokensMatch loose tokens text

-- what a pattern matches under strict rules, it matches under looser ones
abbrev pub PatternsLoosened : Type 0
PatternsLoosened =
    (strict loose : MatchOptions) → IsLooser strict loose → (pattern text : Text)
    → Matches strict pattern text → Matches loose pattern text

-- the text has no `?`, `*` or `[`
abbrev pub IsPlain : Text → Type 0
IsPlain text = IsFalse (list_any is_wildcard text)

-- the texts have the same length, and the same character at each place, case-sensitively or not
abbrev pub SameTexts : (case : Bool) → Text → Text → Type 0
SameTexts case xs ys =
    (length xs ≡ length ys)
    × ((k : ℕ) → k < length ys → IsTrue (is_same case (slice_index xs k) (slice_index ys k)))

-- a text without wildcards is accepted
abbrev pub PlainAccepted : Type 0
PlainAccepted = (pattern : Text) → IsPlain pattern → IsAccepted pattern

-- a text without wildcards matches exactly the texts that are the same, whatever the rules
abbrev pub PlainMatchesSame : Type 0
PlainMatchesSame =
    (o : MatchOptions) (pattern text : Text) → IsPlain pattern
    → (Matches o pattern text ↔ SameTexts o.case_sensitive text pattern)

-- case-sensitively, a text without wildcards matches only itself
abbrev pub PlainMatchesItself : Type 0
PlainMatchesItself =
    (o : MatchOptions) (pattern text : Text) → IsPlain pattern → IsTrue o.case_sensitive
    → (Matches o pattern text ↔ (pattern ≡ text))

-- neighbouring `**` match what one `**` matches
abbrev pub FoldedMatchSame : Type 0
FoldedMatchSame =
    (o : MatchOptions) (units : List Token) (text : Text)
    → (TokensMatch o units text ↔ TokensMatch o (tokens_of_units units) text)

-- an escaped text is accepted
abbrev pub EscapedAccepted : Type 0
EscapedAccepted = (text : Text) → IsAccepted (escaped_text text)

-- an escaped text matches exactly the texts that are the same as the original, whatever the rules
abbrev pub EscapedMatchesSame : Type 0
EscapedMatchesSame =
    (o : MatchOptions) (text other : Text)
    → (Matches o (escaped_text text) other ↔ SameTexts o.case_sensitive other text)

-- case-sensitively, an escaped text matches only the original
abbrev pub EscapedMatchesItself : Type 0
EscapedMatchesItself =
    (o : MatchOptions) (text other : Text) → IsTrue o.case_sensitive
    → (Matches o (escaped_text text) other ↔ (text ≡ other))

-- the computation says yes for exactly the texts that the tokens match
abbrev pub TokensDecided : Type 0
TokensDecided =
    (o : MatchOptions) (tokens : List Token) (text : Text)
    → Decides (tokens_match o tokens text) (TokensMatch o tokens text)

-- the computation says yes for exactly the texts that the pattern matches
abbrev pub PatternsDecided : Type 0
PatternsDecided =
    (o : MatchOptions) (pattern text : Text)
    → Decides (is_match o pattern text) (Matches o pattern text)

-- the separator rule makes no difference to a text without separators
abbrev pub SeparatorRuleSparesNames : Type 0
SeparatorRuleSparesNames =
    (o : MatchOptions) (pattern name : Text) → IsTrue (has_no_slash name)
    → is_match (with_separator_rule o) pattern name ≡ is_match o pattern name

-- Under the separator rule, components joined by `/` match names joined by `/` exactly when the components take the
-- names.
abbrev pub JoinedMatchLevels : Type 0
JoinedMatchLevels =
    (o : MatchOptions) (t : Text) (ts : List Text) (n : Text) (ns : List Text)
    → AreComponents (t ∷ ts) → IsTrue (list_all has_no_slash (n ∷ ns))
    → is_match (with_separator_rule o) (join_with_byte slash (t ∷ ts)) (join_with_byte slash (n ∷ ns))
    ≡ takes_names o (is_match o) (t ∷ ts) (n ∷ ns)

-- the same, with a separator in front of both
abbrev pub RootedMatchLevels : Type 0
RootedMatchLevels =
    (o : MatchOptions) (t : Text) (ts : List Text) (n : Text) (ns : List Text)
    → AreComponents (t ∷ ts) → IsTrue (list_all has_no_slash (n ∷ ns))
    → is_match (with_separator_rule o) (slash ∷ join_with_byte slash (t ∷ ts)) (slash ∷ join_with_byte slash (n ∷ ns))
    ≡ takes_names o (is_match o) (t ∷ ts) (n ∷ ns)

-- A stretch of the text is the same as the literals, case-sensitively or not. It is first in the text if no tokens are
-- before them, and last if none are after them.
pub record StandsIn (case : Bool) (front : List Token) (plain : Text) (back : List Token) (text : Text) : Type 0 where
  pub before : Text
  pub here : Text
  pub after : Text
  pub split : text ≡ before ++ (here ++ after)
  pub same : SameTexts case here plain
  pub first : front ≡ [] → before ≡ []
  pub last : back ≡ [] → after ≡ []

-- every text that the tokens match contains the characters of neighbouring literals
abbrev pub PlainTokensStand : Type 0
PlainTokensStand =
    (o : MatchOptions) (front : List Token) (plain : Text) (back : List Token) (text : Text)
    → TokensMatch o (front ++ (map Literal plain ++ back)) text
    → StandsIn o.case_sensitive front plain back text

-- a text has at least one character for each one-character token
abbrev pub OneCharacterEach : Type 0
OneCharacterEach =
    (o : MatchOptions) (tokens : List Token) (text : Text) → TokensMatch o tokens text
    → count_by takes_one tokens ≤ length text
