-- Adjacent `**` match what one of them matches.
use Rattle.std.proofs.Common.{◌≡◌, ℕ, ◌+◌, ◌-◌, ◌<◌, ◌≤◌, ◌⊎◌, inl, inr, ⊎_elim, false, ◌&&◌, List, [], ◌∷◌, ◌++◌}
use Rattle.std.proofs.Common.{length, slice_index, IsTrue, refl, sym, ap, subst, subst₂, ◌∙◌, arith, append_assoc}
use Rattle.std.proofs.Common.{append-nil}
use Rattle.std.proofs.lemmas.List.{length-append, get_or_append_left, get_or-append_right}
use Rattle.std.proofs.lemmas.Bool.{false≢true, and_parts, cond_both, cases_lt}
use Rattle.std.specs.List.{concat}
use Rattle.glob_text.specs.Characters.{slash}
use Rattle.glob_text.specs.Text.{Text, opens}
use Rattle.glob_pattern.specs.Grammar.Tokens.{Token, is_recursive, begins_recursive, tokens_of_units}
use Rattle.glob_pattern.specs.Matching.Taking.{takes}
use Rattle.glob_pattern.specs.Matching.Texts.{TakesPiece, EndsInSlash, HasForm, AreAllowed, TokensMatch}
use Rattle.glob_pattern.specs.Laws.{FoldedMatchSame}
use Rattle.glob_pattern.specs.declared.options.MatchOptions.{MatchOptions}
use Rattle.glob_pattern.specs.declared.token.Token.TheVariants.{Literal, AnyChar, AnySequence, Recursive, OneOf, NoneOf}

-- Pieces that the first tokens allow can be cut anew so that the second tokens allow them, from any place on.
abbrev AllowedAs : MatchOptions → Text → List Token → List Token → Type 0
AllowedAs o text ts us =
    (k : ℕ) (pieces : List Text) → AreAllowed o text k ts pieces
    → (others : List Text) × (concat others ≡ concat pieces) × AreAllowed o text k us others

-- a token that takes two adjacent pieces takes them as one piece
TakesPiece-append : (o : MatchOptions) (text : Text) (t : Token) (k : ℕ) (xs ys : Text) → TakesPiece o text t k xs
    → TakesPiece o text t (k + length xs) ys → TakesPiece o text t k (xs ++ ys)
TakesPiece-append o text t k xs ys first second i below =
    ⊎_elim
    (λ l. subst (λ c. IsTrue (takes o (opens text (k + i)) c t)) (sym (get_or_append_left xs ys 0 i l)) (first i l))
    (λ h. later h)
    (cases_lt i (length xs))
  where
    later : length xs ≤ i → IsTrue (takes o (opens text (k + i)) (slice_index (xs ++ ys) i) t)
    later h =
        let m : ℕ = i - length xs in
        let at : k + length xs + m ≡ k + i = omega arith in
        let within : m < length ys = omega (arith, length-append xs ys) in
        subst (λ c. IsTrue (takes o (opens text (k + i)) c t)) (sym (get_or-append_right xs ys (length xs) i 0 refl h))
        (subst (λ q. IsTrue (takes o (opens text q) (slice_index ys m) t)) at (second m within))

-- two pieces of adjacent `**` are one piece of a `**`
HasForm-append : (ts : List Token) (xs ys : Text) → HasForm Recursive (Recursive ∷ ts) xs → HasForm Recursive ts ys
    → HasForm Recursive ts (xs ++ ys)
HasForm-append ts xs ys first second =
    ⊎_elim (λ e. inl e) (λ closed. inr (⊎_elim empty (λ ends. inr (
      xs ++ ends.0,
      ap (λ zs. xs ++ zs) ends.1 ∙ sym
          (append_assoc xs ends.0 (slash ∷ [])),
    )) closed)) second
  where
    empty : ys ≡ [] → (xs ++ ys ≡ []) ⊎ EndsInSlash (xs ++ ys)
    empty e =
        let alone : xs ++ ys ≡ xs = ap (λ zs. xs ++ zs) e ∙ append-nil xs in
        ⊎_elim (λ none. absurd (cc)) (⊎_elim (λ nil. inl (alone ∙ nil)) (λ ends. inr (ends.0, alone ∙ ends.1))) first

-- one `**` matches what two adjacent ones match
two_deep-one : (o : MatchOptions) (text : Text) (ts : List Token) → AllowedAs o text (Recursive ∷ Recursive ∷ ts) (Recursive ∷ ts)
two_deep-one o text ts k [] h = absurd h
two_deep-one o text ts k (xs ∷ []) h = absurd h.2
two_deep-one o text ts k (xs ∷ ys ∷ pieces) (took, form, (took_next, form_next, rest)) =
    let at : k + length xs + length ys ≡ k + length (xs ++ ys) = omega (arith, length-append xs ys) in (
      (xs ++ ys) ∷ pieces,
      append_assoc xs ys (concat pieces),
      (
        TakesPiece-append o text Recursive k xs ys took took_next,
        HasForm-append ts xs ys form form_next,
        subst
            (λ q. AreAllowed o text q ts pieces) at rest,
      ),
    )

-- two adjacent `**` match what one matches
one_deep-two : (o : MatchOptions) (text : Text) (ts : List Token) → AllowedAs o text (Recursive ∷ ts) (Recursive ∷ Recursive ∷ ts)
one_deep-two o text ts k pieces h =
    let none : (i : ℕ) → i < 0 → IsTrue (takes o (opens text (k + i)) (slice_index [] i) Recursive) = λ i l. absurd (omega arith) in
    let at : k ≡ k + 0 = omega arith in
    ([] ∷ pieces, refl, (none, inr (inl refl), subst (λ q. AreAllowed o text q (Recursive ∷ ts) pieces) at h))

-- if a last token stays last, its piece keeps its form
HasForm-others : (t : Token) (ts us : List Token) (piece : Text) → (ts ≡ [] → us ≡ []) → HasForm t ts piece → HasForm t us piece
HasForm-others (Literal c) ts us piece last h = h
HasForm-others AnyChar ts us piece last h = h
HasForm-others AnySequence ts us piece last h = h
HasForm-others Recursive ts us piece last h = ⊎_elim (λ e. inl (last e)) (λ closed. inr closed) h
HasForm-others (OneOf entries) ts us piece last h = h
HasForm-others (NoneOf entries) ts us piece last h = h

-- the same token in front of both
AllowedAs-cons : (o : MatchOptions) (text : Text) (t : Token) (ts us : List Token) → (ts ≡ [] → us ≡ [])
    → AllowedAs o text ts us → AllowedAs o text (t ∷ ts) (t ∷ us)
AllowedAs-cons o text t ts us last more k [] h = absurd h
AllowedAs-cons o text t ts us last more k (piece ∷ pieces) (took, form, rest) =
    let found : (others : List Text) × (concat others ≡ concat pieces) × AreAllowed o text (k + length piece) us others =
    more (k + length piece) pieces rest in
    (piece ∷ found.0, ap (λ zs. piece ++ zs) found.1, (took, HasForm-others t ts us piece last form, found.2))

-- pieces that are cut anew twice
AllowedAs-trans : (o : MatchOptions) (text : Text) (ts us vs : List Token) → AllowedAs o text ts us → AllowedAs o text
    us vs → AllowedAs o text ts vs
AllowedAs-trans o text ts us vs first second k pieces h =
    let found : (others : List Text) × (concat others ≡ concat pieces) × AreAllowed o text k us others = first k pieces h in
    let last : (others : List Text) × (concat others ≡ concat found.0) × AreAllowed o text k vs others = second k found.0 found.2 in
    (last.0, last.1 ∙ found.1, last.2)

-- a token that is `**`
deep-from_test : (t : Token) → IsTrue (is_recursive t) → t ≡ Recursive
deep-from_test (Literal c) h = absurd (false≢true h)
deep-from_test AnyChar h = absurd (false≢true h)
deep-from_test AnySequence h = absurd (false≢true h)
deep-from_test Recursive h = refl
deep-from_test (OneOf entries) h = absurd (false≢true h)
deep-from_test (NoneOf entries) h = absurd (false≢true h)

-- tokens that begin with `**`
deep-from_begin : (ts : List Token) → IsTrue (begins_recursive ts) → (us : List Token) × (ts ≡ Recursive ∷ us)
deep-from_begin [] h = absurd (false≢true h)
deep-from_begin (t ∷ ts) h = (ts, ap (λ u. u ∷ ts) (deep-from_test t h))

-- two adjacent `**`, from their tests
two_deep : (t : Token) (ts : List Token) → IsTrue (is_recursive t && begins_recursive ts) → (us : List Token) ×
    (t ≡ Recursive) × (ts ≡ Recursive ∷ us)
two_deep t ts h =
    let begun : (us : List Token) × (ts ≡ Recursive ∷ us) = deep-from_begin ts (and_parts (is_recursive t) (begins_recursive ts) h).1 in
    (begun.0, deep-from_test t (and_parts (is_recursive t) (begins_recursive ts) h).0, begun.1)

-- no units fold to no tokens
tokens_of_units-nil : (ts : List Token) → ts ≡ [] → tokens_of_units ts ≡ []
tokens_of_units-nil ts e = ap tokens_of_units e

-- only no units fold to no tokens
nil-from_folded : (ts : List Token) → tokens_of_units ts ≡ [] → ts ≡ []
nil-from_folded [] = λ e. refl
nil-from_folded (t ∷ ts) =
    cond_both (is_recursive t && begins_recursive ts) (tokens_of_units ts) (t ∷ tokens_of_units ts) (λ xs. xs ≡ [] → t ∷ ts ≡ [])
    (λ both e. first (nil-from_folded ts e) both) second
  where
    first : ts ≡ [] → IsTrue (is_recursive t && begins_recursive ts) → t ∷ ts ≡ []
    first none both = let found : (us : List Token) × (t ≡ Recursive) × (ts ≡ Recursive ∷ us) = two_deep t ts both in cc (found.2)

    second : (is_recursive t && begins_recursive ts) ≡ false → t ∷ tokens_of_units ts ≡ [] → t ∷ ts ≡ []
    second alone e = cc

-- from two adjacent `**` to the second one only
two_deep-second : (o : MatchOptions) (text : Text) (t : Token) (ts : List Token) → IsTrue
    (is_recursive t && begins_recursive ts) → AllowedAs o text (t ∷ ts) ts
two_deep-second o text t ts both =
    let found : (us : List Token) × (t ≡ Recursive) × (ts ≡ Recursive ∷ us) = two_deep t ts both in
    subst₂ (λ u us. AllowedAs o text (u ∷ us) us) (sym found.1) (sym found.2) (two_deep-one o text found.0)

-- from the second one only back to two adjacent `**`
second-two_deep : (o : MatchOptions) (text : Text) (t : Token) (ts : List Token) → IsTrue
    (is_recursive t && begins_recursive ts) → AllowedAs o text ts (t ∷ ts)
second-two_deep o text t ts both =
    let found : (us : List Token) × (t ≡ Recursive) × (ts ≡ Recursive ∷ us) = two_deep t ts both in
    subst₂ (λ u us. AllowedAs o text us (u ∷ us)) (sym found.1) (sym found.2) (one_deep-two o text found.0)

-- the folded tokens match what the units match
tokens_of_units-allowed : (o : MatchOptions) (text : Text) (units : List Token) → AllowedAs o text units (tokens_of_units units)
tokens_of_units-allowed o text [] = λ k pieces h. (pieces, refl, h)
tokens_of_units-allowed o text (t ∷ ts) =
    cond_both (is_recursive t && begins_recursive ts) (tokens_of_units ts) (t ∷ tokens_of_units ts) (AllowedAs o text (t ∷ ts))
    (λ both. AllowedAs-trans o text (t ∷ ts) ts (tokens_of_units ts) (two_deep-second o text t ts both) (tokens_of_units-allowed o text ts))
    (λ alone. AllowedAs-cons o text t ts (tokens_of_units ts) (tokens_of_units-nil ts) (tokens_of_units-allowed o text ts))

-- the units match what the folded tokens match
allowed-from_folded : (o : MatchOptions) (text : Text) (units : List Token) → AllowedAs o text (tokens_of_units units) units
allowed-from_folded o text [] = λ k pieces h. (pieces, refl, h)
allowed-from_folded o text (t ∷ ts) =
    cond_both (is_recursive t && begins_recursive ts) (tokens_of_units ts) (t ∷ tokens_of_units ts) (λ us. AllowedAs o text us (t ∷ ts))
    (λ both. AllowedAs-trans o text (tokens_of_units ts) ts (t ∷ ts) (allowed-from_folded o text ts) (second-two_deep o text t ts both))
    (λ alone. AllowedAs-cons o text t (tokens_of_units ts) ts (nil-from_folded ts) (allowed-from_folded o text ts))

-- tokens that allow the pieces of others match the same text
TokensMatch-as : (o : MatchOptions) (text : Text) (ts us : List Token) → AllowedAs o text ts us → TokensMatch o ts text
    → TokensMatch o us text
unfolding TokensMatch
TokensMatch-as o text ts us recut (pieces, e, allowed) =
    let found : (others : List Text) × (concat others ≡ concat pieces) × AreAllowed o text 0 us others = recut 0 pieces allowed in
    (found.0, found.1 ∙ e, found.2)

-- units and their folded tokens match the same texts
pub folded_match_same : FoldedMatchSame
folded_match_same o units text = (
  TokensMatch-as o text units (tokens_of_units units) (tokens_of_units-allowed o text units),
  TokensMatch-as o text
      (tokens_of_units units) units (allowed-from_folded o text units),
)
