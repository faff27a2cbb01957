-- The answer of a pattern of a set, and the first match of the set.
use Rattle.std.proofs.Common.{◌≡◌, ℕ, suc, ◌<◌, ◌↔◌, Bool, true, false, List, [], ◌∷◌, ◌++◌, length, get_or, Option}
use Rattle.std.proofs.Common.{Some, None, IfSome, IsSomeAnd, cond, IsTrue, bit_or, Result, Ok, Err, IfOk, sym, ap}
use Rattle.std.proofs.Common.{subst, ◌∙◌, refl}
use Rattle.std.proofs.lemmas.List.{get_or_default}
use Rattle.std.proofs.lemmas.Bool.{false≢true}
use Rattle.std.specs.Option.{is_some}
use Rattle.std.specs.Str.{chars, IsUtf8}
use Rattle.glob_text.specs.Text.{Text}
use Rattle.glob_pattern.specs.Matching.Texts.{Matches}
use Rattle.glob_pattern.specs.Matching.Short.{IsShort}
use Rattle.glob_pattern.specs.declared.options.MatchOptions.{MatchOptions}
use Rattle.glob_pattern.proofs.CallerLemmas.{match_decided}
use Rattle.glob_set.specs.Private.Pairs.{text_bits, HasBits, IsNeed, AreNeeds}
use Rattle.glob_set.specs.declared.pairs.Need.{Need}
use Rattle.glob_set.specs.Sets.{MatchesAt, AnyMatch, FirstMatch, matches_below, AreShort}

not_true : (b : Bool) → ¬ (b ≡ true) → b ≡ false
not_true true not = absurd (not refl)
not_true false not = refl

module _ (o : MatchOptions) (patterns : List Text) (text : Text) where
  -- a number without a pattern has no match
  pub within_patterns : (k : ℕ) → MatchesAt o patterns text k → k < length patterns
  unfolding MatchesAt
  within_patterns k at = at.0

  -- the first match says whether there is any
  pub AnyMatch-Some : (number : ℕ) → FirstMatch o patterns text (Some number) → AnyMatch o patterns text
  unfolding FirstMatch AnyMatch
  AnyMatch-Some number first = (number, first.0)

  pub AnyMatch-None : FirstMatch o patterns text None → ¬ (AnyMatch o patterns text)
  unfolding FirstMatch
  AnyMatch-None none = none

  -- the pattern at a number matches exactly when the definition says so
  pub MatchesAt-iff : (number : ℕ) (pattern : Text) (b : Bool) → number < length patterns → pattern ≡ get_or patterns number pattern
      → IsTrue b ↔ Matches o (chars pattern) (chars text) → IsTrue b ↔ MatchesAt o patterns text number
  unfolding MatchesAt
  MatchesAt-iff number pattern b below is answer =
      let same : pattern ≡ get_or patterns number [] = is ∙ get_or_default patterns number pattern [] below in (
        λ t. (below, subst (λ p. Matches o (chars p) (chars text)) same (answer.0 t)),
        λ at. answer.1 (subst (λ p. Matches o (chars p) (chars text)) (sym same) at.1),
      )

  -- a text that lacks bits of the pattern does not match it
  pub MatchesAt-not : (needs : List Need) (number : ℕ) (need : Need) (bits : Option ℕ) → AreNeeds patterns needs
      → IsUtf8 text → need ≡ get_or needs number need
      → IfSome bits (λ known. known ≡ text_bits text) → IsSomeAnd bits (λ known. ¬ (bit_or need.bits known ≡ known))
      → ¬ (MatchesAt o patterns text number)
  unfolding MatchesAt HasBits
  MatchesAt-not needs number need None needed utf8 is are lacks at = absurd lacks
  MatchesAt-not needs number need (Some known) needed utf8 is are lacks at =
      let own : IsNeed (get_or patterns number []) need = subst (IsNeed (get_or patterns number [])) (sym is)
      (needed.each number need at.0) in
      lacks (subst (λ b. bit_or need.bits b ≡ b) (sym are) (own.bits o text utf8 at.1))

  -- the computed matches grow by a number
  pub matches_below-yes : (n : ℕ) → MatchesAt o patterns text n → matches_below o patterns text (suc n) ≡ matches_below
      o patterns text n ++ n ∷ []
  unfolding MatchesAt
  matches_below-yes n at =
      ap (λ b. cond b (matches_below o patterns text n ++ n ∷ []) (matches_below o patterns text n))
      ((match_decided o (chars (get_or patterns n [])) (chars text)).1 at.1)

  pub matches_below-no : (n : ℕ) → n < length patterns → ¬ (MatchesAt o patterns text n) → matches_below o patterns
      text (suc n) ≡ matches_below o patterns text n
  unfolding MatchesAt
  matches_below-no n below not_at =
      ap (λ b. cond b (matches_below o patterns text n ++ n ∷ []) (matches_below o patterns text n))
      (not_true _ (λ yes. not_at (below, (match_decided o (chars (get_or patterns n [])) (chars text)).0 yes)))

pub AreShort-at : (patterns : List Text) (number : ℕ) (pattern : Text) → number < length patterns → pattern ≡ get_or patterns number pattern
    → AreShort patterns → IsShort (chars pattern)
unfolding AreShort
AreShort-at patterns number pattern below is short =
    subst (λ p. IsShort (chars p)) (sym (is ∙ get_or_default patterns number pattern [] below)) (short number below)

-- what follows from a result
pub IfOk-follow : {T E : Type 0} (r : Result T E) (P Q : T → Type 0) → ((x : T) → P x → Q x) → IfOk r P → IfOk r Q
IfOk-follow (Ok x) P Q follows known = follows x known
IfOk-follow (Err e) P Q follows known = tt

pub AnyMatch-iff : (o : MatchOptions) (patterns : List Text) (text : Text) (first : Option ℕ) (b : Bool) → b ≡ is_some first
    → FirstMatch o patterns text first → IsTrue b ↔ AnyMatch o patterns text
AnyMatch-iff o patterns text (Some number) b is first = (λ _. AnyMatch-Some o patterns text number first, λ _. is)
AnyMatch-iff o patterns text None b is none = (
  λ t. absurd (false≢true (sym is ∙ t)),
  λ any. absurd
      (AnyMatch-None o patterns text none any),
)
