-- A pattern without wildcards is accepted, and case-sensitively it matches only itself.
use Rattle.std.proofs.Common.{◌≡◌, ℕ, ◌<◌, ◌≢◌, ◌↔◌, Bool, true, false, ◌||◌, ◌==◌, ⊎_elim, List, [], ◌∷◌, length, map}
use Rattle.std.proofs.Common.{flat_map, slice_index, IsTrue, IsFalse, refl, sym, ap, subst, ◌∙◌, arith}
use Rattle.std.proofs.lemmas.Bool.{false≢true, or_parts, or_cases, or_left, eqb-true, eqb-false, eq-eqb, false_from_ne_true}
use Rattle.std.proofs.lemmas.List.{map-id}
use Rattle.std.proofs.lemmas.List.Concat.{flat_map_single}
use Rattle.std.proofs.lemmas.List.Folds.{list_any_at}
use Rattle.std.proofs.lemmas.Grind.{same_number_lists}
use Rattle.glob_pattern.specs.Grammar.Characters.{star, question_mark, open_bracket, is_wildcard}
use Rattle.glob_text.specs.Text.{Text}
use Rattle.glob_pattern.specs.Grammar.Brackets.{is_same}
use Rattle.glob_pattern.specs.Grammar.Tokens.{Token}
use Rattle.glob_pattern.specs.Grammar.Units.{HasTokens}
use Rattle.glob_pattern.specs.Matching.Texts.{Matches}
use Rattle.glob_pattern.specs.Laws.{IsPlain, SameTexts, PlainAccepted, PlainMatchesSame, PlainMatchesItself}
use Rattle.glob_pattern.specs.declared.options.MatchOptions.{MatchOptions}
use Rattle.glob_pattern.specs.declared.token.Token.TheVariants.{Literal}
use Rattle.glob_pattern.proofs.GrammarLemmas.Accepting.{accepted_by_tokens}
use Rattle.glob_pattern.proofs.GrammarLemmas.WrittenUnits.{WritesUnit, HasTokens-written, UnitAt-plain, tokens-from_Matches}
use Rattle.glob_pattern.proofs.MatchingLemmas.Matched.{match_by_tokens}
use Rattle.glob_pattern.proofs.MatchingLemmas.Literals.{IsLiteral, SameTexts-from_TokensMatch, TokensMatch-from_SameTexts}

-- a text has one list of tokens
abbrev pub TokensAreUnique : Type 0
TokensAreUnique = (text : Text) (a b : List Token) → HasTokens text a → HasTokens text b → a ≡ b

-- case-sensitively, texts that are the same are one
pub same-with_case : (c x : ℕ) → IsTrue (is_same true c x) → c ≡ x
same-with_case c x h = ⊎_elim (λ e. eqb-true c x e) (λ no. absurd (false≢true no)) (or_cases (c == x) false h)

-- the same for whole texts
pub SameTexts-with_case : (xs ys : Text) → SameTexts true xs ys → xs ≡ ys
SameTexts-with_case xs ys (lengths, same_at) =
    same_number_lists xs ys lengths (λ k l. same-with_case (slice_index xs k) (slice_index ys k) (same_at k (omega arith)))

-- a text is the same as itself
pub SameTexts-itself : (case : Bool) (xs ys : Text) → xs ≡ ys → SameTexts case xs ys
SameTexts-itself case xs ys e =
    (ap length e, λ k l. or_left (slice_index xs k == slice_index ys k) _ (eq-eqb _ _ (ap (λ zs. slice_index zs k) e)))

-- a character that passes no test for wildcards is not a wildcard
not_wildcard : (c : ℕ) → IsFalse (is_wildcard c) → (c ≢ question_mark) × (c ≢ star) × (c ≢ open_bracket)
not_wildcard c h =
    let outer : IsFalse (c == question_mark || c == star) × IsFalse (c == open_bracket) = or_parts _ _ h in
    let inner : IsFalse (c == question_mark) × IsFalse (c == star) = or_parts _ _ outer.0 in
    (eqb-false c question_mark inner.0, eqb-false c star inner.1, eqb-false c open_bracket outer.1)

-- a character is written as itself
abbrev itself : ℕ → Text
itself c = c ∷ []

-- each character of a pattern without wildcards is a unit
plain-writes : (pattern : Text) → IsPlain pattern → (k : ℕ) → k < length pattern → WritesUnit itself Literal (slice_index pattern k)
plain-writes pattern plain k l whole rest f e =
    UnitAt-plain whole rest f (slice_index pattern k) (not_wildcard _ (false_from_ne_true _ (λ h. false≢true (sym plain
    ∙ list_any_at is_wildcard pattern k 0 l h)))) e

-- a text is written as itself
flat_map-itself : (pattern : Text) → flat_map itself pattern ≡ pattern
flat_map-itself pattern = flat_map_single (λ c. c) pattern ∙ map-id pattern

-- the tokens of a pattern without wildcards are its characters
pub HasTokens-plain : (pattern : Text) → IsPlain pattern → HasTokens pattern (map Literal pattern)
HasTokens-plain pattern plain =
    subst (λ text. HasTokens text (map Literal pattern)) (flat_map-itself pattern)
    (HasTokens-written itself Literal pattern (λ c. refl) (plain-writes pattern plain))

-- a plain token stands for its character
plain-literal : (o : MatchOptions) (x : ℕ) → IsLiteral o (Literal x) x
plain-literal o x = (refl, λ opening c. refl)

-- its characters are its units
pub plain_accepted : PlainAccepted
plain_accepted pattern plain = accepted_by_tokens pattern (map Literal pattern) (HasTokens-plain pattern plain)

-- a pattern without wildcards matches the texts that are the same as it
pub plain_matches_same : TokensAreUnique → PlainMatchesSame
plain_matches_same unique o pattern text plain =
    let tokens : List Token = map Literal pattern in
    let has : HasTokens pattern tokens = HasTokens-plain pattern plain in (
      (λ m. SameTexts-from_TokensMatch o Literal (plain-literal o) pattern text
          (tokens-from_Matches o pattern text tokens (λ others h. unique pattern others tokens h has) m)),
      (λ s. match_by_tokens o pattern text tokens has (TokensMatch-from_SameTexts o Literal (plain-literal o) pattern text s)),
    )

-- case-sensitively, that is only the pattern
pub plain_matches_itself : TokensAreUnique → PlainMatchesItself
plain_matches_itself unique o pattern text plain with_case =
    let both : Matches o pattern text ↔ SameTexts o.case_sensitive text pattern = plain_matches_same unique o pattern text plain in (
      (λ m. sym (SameTexts-with_case text pattern (subst (λ case. SameTexts case text pattern) with_case (both.0 m)))),
      (λ e. both.1 (SameTexts-itself o.case_sensitive text pattern (sym e))),
    )
