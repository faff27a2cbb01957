-- What literals and one-character tokens of a pattern say about every text that it matches.
use Rattle.std.proofs.Common.{◌≡◌, ℕ, zero, suc, ◌+◌, ◌<◌, ◌≤◌, Bool, cond, List, [], ◌∷◌, ◌++◌, length, map}
use Rattle.std.proofs.Common.{slice_index, IsTrue, refl, sym, ap, ap₂, subst, ◌∙◌, arith}
use Rattle.std.proofs.lemmas.List.{length-append, nil_from_length}
use Rattle.std.proofs.lemmas.List.Folds.{concat-append}
use Rattle.std.proofs.lemmas.List.Sums.{sum_by-cons}
use Rattle.std.specs.List.{concat, count_by}
use Rattle.glob_text.specs.Text.{Text}
use Rattle.glob_pattern.specs.Grammar.Brackets.{is_same}
use Rattle.glob_pattern.specs.Grammar.Tokens.{Token, takes_one}
use Rattle.glob_pattern.specs.Matching.Texts.{AreAllowed, TokensMatch}
use Rattle.glob_pattern.specs.Laws.{SameTexts, PlainTokensStand, OneCharacterEach}
use Rattle.glob_pattern.specs.declared.options.MatchOptions.{MatchOptions}
use Rattle.glob_pattern.specs.declared.token.Token.TheVariants.{Literal, AnyChar, AnySequence, Recursive, OneOf, NoneOf}

-- The pieces of tokens are pieces of the first ones, and then allowed pieces of those after them.
AfterFront : MatchOptions → Text → ℕ → List Token → List Token → List Text → Type 0
AfterFront o text k front rest pieces =
    (before : List Text) × (after : List Text) × (pieces ≡ before ++ after)
    × AreAllowed o text (k + length (concat before)) rest after × (front ≡ [] → before ≡ [])

allowed-after_front : (o : MatchOptions) (text : Text) (k : ℕ) (front rest : List Token) (pieces : List Text)
    → AreAllowed o text k (front ++ rest) pieces → AfterFront o text k front rest pieces
unfolding AfterFront
allowed-after_front o text k [] rest pieces a =
    let none : k ≡ k + 0 = omega arith in ([], pieces, refl, subst (λ i. AreAllowed o text i rest pieces) none a, λ e. refl)
allowed-after_front o text k (t ∷ ts) rest [] a = absurd a
allowed-after_front o text k (t ∷ ts) rest (piece ∷ pieces) (took, form, others) =
    let (before, after, e, allowed, _) = allowed-after_front o text (k + length piece) ts rest pieces others in
    let at : k + length piece + length (concat before) ≡ k + length (concat (piece ∷ before)) = omega
    (arith, length-append piece (concat before)) in
    (piece ∷ before, after, ap (λ ps. piece ∷ ps) e, subst (λ i. AreAllowed o text i rest after) at allowed, λ nil. absurd (cc))

-- one more character that is the same
pub SameTexts-more : (case : Bool) (d c : ℕ) (xs ys : Text) → IsTrue (is_same case d c) → SameTexts case xs ys
    → SameTexts case (d ∷ xs) (c ∷ ys)
SameTexts-more case d c xs ys first (lengths, rest) = (omega arith, each)
  where
    each : (k : ℕ) → k < length (c ∷ ys) → IsTrue (is_same case (slice_index (d ∷ xs) k) (slice_index (c ∷ ys) k))
    each zero l = first
    each (suc k) l = rest k (omega arith)

-- The pieces of plain tokens are the same as their characters, and if no token follows, nothing follows.
PlainFirst : Bool → Text → List Token → List Text → Type 0
PlainFirst case plain back pieces =
    (here : Text) × (after : List Text) × (concat pieces ≡ here ++ concat after)
    × SameTexts case here plain × (back ≡ [] → after ≡ [])

plain-first : (o : MatchOptions) (text : Text) (k : ℕ) (plain : Text) (back : List Token) (pieces : List Text)
    → AreAllowed o text k (map Literal plain ++ back) pieces → PlainFirst o.case_sensitive plain back pieces
unfolding PlainFirst
plain-first o text k [] [] [] a = ([], [], refl, (refl, λ i l. absurd (omega arith)), λ e. refl)
plain-first o text k [] [] (piece ∷ pieces) a = absurd a
plain-first o text k [] (t ∷ ts) pieces a = ([], pieces, refl, (refl, λ i l. absurd (omega arith)), λ e. absurd (cc))
plain-first o text k (c ∷ cs) back [] a = absurd a
plain-first o text k (c ∷ cs) back ([] ∷ pieces) (took, form, others) = absurd (omega arith)
plain-first o text k (c ∷ cs) back ((d ∷ ds) ∷ pieces) (took, form, others) =
    let none : ds ≡ [] = nil_from_length ds (omega arith) in
    let (here, after, e, same, last) = plain-first o text (k + length (d ∷ ds)) cs back pieces others in
    (d ∷ here, after, ap₂ (λ xs ys. d ∷ (xs ++ ys)) none e, SameTexts-more o.case_sensitive d c here cs (took 0 (omega arith)) same, last)

-- neighbouring plain tokens stand for characters of each text
pub plain_tokens_stand : PlainTokensStand
unfolding AfterFront PlainFirst TokensMatch
plain_tokens_stand o front plain back text (pieces, e, allowed) =
    let (before, others, split, rest, first) = allowed-after_front o text 0 front (map Literal plain ++ back) pieces allowed in
    let (here, after, next, same, last) = plain-first o text (0 + length (concat before)) plain back others rest in
    record {
      before = concat before;
      here = here;
      after = concat after;
      split = sym e ∙ ap concat split ∙ concat-append before others ∙ ap (λ xs. concat before ++ xs) next;
      same = same;
      first = λ nil. ap concat (first nil);
      last = λ nil. ap concat (last nil);
    }

counted : (t : Token) (ts : List Token) → count_by takes_one (t ∷ ts) ≡ cond (takes_one t) 1 0 + count_by takes_one ts
counted t ts = sum_by-cons (λ x. cond (takes_one x) 1 0) t ts

-- each token of one character has one
ones-allowed : (o : MatchOptions) (text : Text) (k : ℕ) (tokens : List Token) (pieces : List Text)
    → AreAllowed o text k tokens pieces → count_by takes_one tokens ≤ length (concat pieces)
ones-allowed o text k [] [] a = omega arith
ones-allowed o text k [] (piece ∷ pieces) a = absurd a
ones-allowed o text k (t ∷ ts) [] a = absurd a
ones-allowed o text k (Literal c ∷ ts) (piece ∷ pieces) (took, form, others) =
    omega (arith, counted (Literal c) ts, length-append piece (concat pieces), ones-allowed o text (k + length piece) ts pieces others)
ones-allowed o text k (AnyChar ∷ ts) (piece ∷ pieces) (took, form, others) =
    omega (arith, counted AnyChar ts, length-append piece (concat pieces), ones-allowed o text (k + length piece) ts pieces others)
ones-allowed o text k (AnySequence ∷ ts) (piece ∷ pieces) (took, form, others) =
    omega (arith, counted AnySequence ts, length-append piece (concat pieces), ones-allowed o text (k + length piece) ts pieces others)
ones-allowed o text k (Recursive ∷ ts) (piece ∷ pieces) (took, form, others) =
    omega (arith, counted Recursive ts, length-append piece (concat pieces), ones-allowed o text (k + length piece) ts pieces others)
ones-allowed o text k (OneOf entries ∷ ts) (piece ∷ pieces) (took, form, others) =
    omega (arith, counted (OneOf entries) ts, length-append piece (concat pieces), ones-allowed o text (k + length piece) ts pieces others)
ones-allowed o text k (NoneOf entries ∷ ts) (piece ∷ pieces) (took, form, others) =
    omega (arith, counted (NoneOf entries) ts, length-append piece (concat pieces), ones-allowed o text (k + length piece) ts pieces others)

-- a text is at least as long as there are tokens of one character
pub one_character_each : OneCharacterEach
unfolding TokensMatch
one_character_each o tokens text (pieces, e, allowed) = omega (arith, ap length e, ones-allowed o text 0 tokens pieces allowed)
