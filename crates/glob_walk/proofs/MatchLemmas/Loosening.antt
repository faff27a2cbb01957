-- A match under strict rules is a match under looser ones.
use Rattle.std.proofs.Common.{ℕ, ◌+◌, Bool, true, false, not, ◌&&◌, ◌==◌, List, [], ◌∷◌, length, slice_index, IsTrue, refl, sym, subst}
use Rattle.std.proofs.lemmas.Bool.{false≢true, and_parts, and_from}
use Rattle.glob_text.specs.Characters.{slash, dot}
use Rattle.glob_text.specs.Text.{Text, opens}
use Rattle.glob_pattern.specs.Grammar.Brackets.{holds}
use Rattle.glob_pattern.specs.Grammar.Tokens.{Token}
use Rattle.glob_pattern.specs.Matching.Taking.{is_excluded_separator, is_excluded_dot, is_free, takes}
use Rattle.glob_pattern.specs.Matching.Texts.{AreAllowed, TokensMatch}
use Rattle.glob_pattern.specs.Laws.{IsLooser, TokensLoosened, PatternsLoosened}
use Rattle.glob_pattern.specs.declared.options.MatchOptions.{MatchOptions}
use Rattle.glob_pattern.specs.declared.token.Token.TheVariants.{Literal, AnyChar, AnySequence, Recursive, OneOf, NoneOf}
use Rattle.glob_pattern.proofs.MatchingLemmas.Matched.{match_by_tokens, tokens_of_match}

-- if a test fails, a test that passes less often fails too
not-from_less : (a b : Bool) → (IsTrue b → IsTrue a) → IsTrue (not a) → IsTrue (not b)
not-from_less a false less h = refl
not-from_less true true less h = h
not-from_less false true less h = absurd (false≢true (less refl))

-- a conjunction passes less often if its first part does
and-less : (a b c : Bool) → (IsTrue b → IsTrue a) → IsTrue (b && c) → IsTrue (a && c)
and-less a b c less h = and_from a c (less (and_parts b c h).0) (and_parts b c h).1

-- what a looser separator rule excludes, a strict one excludes, too
kept_separator-less : (strict loose : MatchOptions) (c : ℕ) → IsLooser strict loose → IsTrue
    (is_excluded_separator loose c) → IsTrue (is_excluded_separator strict c)
kept_separator-less strict loose c less = and-less strict.require_literal_separator loose.require_literal_separator (c == slash) less.1

-- the same for the dot rule
kept_dot-less : (strict loose : MatchOptions) (opening : Bool) (c : ℕ) → IsLooser strict loose → IsTrue
    (is_excluded_dot loose opening c) → IsTrue (is_excluded_dot strict opening c)
kept_dot-less strict loose opening c less =
    and-less (strict.require_literal_leading_dot && opening) (loose.require_literal_leading_dot && opening) (c == dot)
    (and-less strict.require_literal_leading_dot loose.require_literal_leading_dot opening less.2)

-- what strict rules allow, looser ones allow
is_free-looser : (strict loose : MatchOptions) (opening : Bool) (c : ℕ) → IsLooser strict loose → IsTrue
    (is_free strict opening c) → IsTrue (is_free loose opening c)
is_free-looser strict loose opening c less h =
    let free : IsTrue (not (is_excluded_separator strict c)) × IsTrue (not (is_excluded_dot strict opening c)) = and_parts _ _ h in
    and_from _ _ (not-from_less (is_excluded_separator strict c) (is_excluded_separator loose c)
    (kept_separator-less strict loose c less) free.0)
    (not-from_less (is_excluded_dot strict opening c) (is_excluded_dot loose opening c) (kept_dot-less strict loose opening c less) free.1)

-- a token takes under looser rules what it takes under strict ones
takes-looser : (strict loose : MatchOptions) (opening : Bool) (c : ℕ) (t : Token) → IsLooser strict loose → IsTrue
    (takes strict opening c t) → IsTrue (takes loose opening c t)
takes-looser strict loose opening c (Literal x) less h = rw less.0 h
takes-looser strict loose opening c AnyChar less h = is_free-looser strict loose opening c less h
takes-looser strict loose opening c AnySequence less h = is_free-looser strict loose opening c less h
takes-looser strict loose opening c Recursive less h =
    not-from_less (is_excluded_dot strict opening c) (is_excluded_dot loose opening c) (kept_dot-less strict loose opening c less) h
takes-looser strict loose opening c (OneOf entries) less h =
    let both : IsTrue (is_free strict opening c) × IsTrue (holds strict.case_sensitive c entries) = and_parts _ _ h in
    and_from _ _ (is_free-looser strict loose opening c less both.0) (subst (λ case. IsTrue (holds case c entries)) (sym less.0) both.1)
takes-looser strict loose opening c (NoneOf entries) less h =
    let both : IsTrue (is_free strict opening c) × IsTrue (not (holds strict.case_sensitive c entries)) = and_parts _ _ h in
    and_from _ _ (is_free-looser strict loose opening c less both.0)
    (subst (λ case. IsTrue (not (holds case c entries))) (sym less.0) both.1)

-- pieces allowed under strict rules are allowed under looser ones
pub AreAllowed-looser : (strict loose : MatchOptions) → IsLooser strict loose → (text : Text) (k : ℕ) (ts : List Token)
    (pieces : List Text) → AreAllowed strict text k ts pieces → AreAllowed loose text k ts pieces
AreAllowed-looser strict loose less text k [] [] h = tt
AreAllowed-looser strict loose less text k [] (piece ∷ pieces) h = h
AreAllowed-looser strict loose less text k (t ∷ ts) [] h = h
AreAllowed-looser strict loose less text k (t ∷ ts) (piece ∷ pieces) (took, form, rest) = (
  (λ i l. takes-looser strict loose (opens text (k + i)) (slice_index piece i) t less (took i l)),
  form,
  AreAllowed-looser strict loose less text (k + length piece) ts pieces rest,
)

-- the same pieces are a match under looser rules
pub tokens_loosened : TokensLoosened
unfolding TokensMatch
tokens_loosened strict loose less tokens text (pieces, e, allowed) = (
  pieces,
  e,
  AreAllowed-looser strict loose less
      text 0 tokens pieces allowed,
)

-- the same pattern matches under looser rules
pub patterns_loosened : PatternsLoosened
patterns_loosened strict loose less pattern text matches =
    let has = tokens_of_match strict pattern text matches in
    match_by_tokens loose pattern text has.0 has.1 (tokens_loosened strict loose less has.0 text has.2)
