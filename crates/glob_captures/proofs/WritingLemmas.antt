-- Tokens that are written one after another.
use Rattle.std.proofs.Common.{◌≡◌, ◌+◌, ◌-◌, ◌<◌, ◌≤◌, ℕ, Bool, true, false, ◌&&◌, List, [], ◌∷◌, ◌++◌, length, inl}
use Rattle.std.proofs.Common.{inr, ◌⊎◌, refl, sym, ap, ◌∙◌, subst, arith}
use Rattle.std.proofs.lemmas.Bool.{cases_lt, cond_both, and_parts, and_cases, and_right, false≢true, both_ways}
use Rattle.glob_text.specs.Text.{Text, Has}
use Rattle.glob_pattern.specs.Grammar.Characters.{star, close_bracket}
use Rattle.glob_pattern.specs.Grammar.Tokens.{Token, is_recursive, begins_recursive, tokens_of_units}
use Rattle.glob_pattern.specs.Grammar.Units.{ClosesBefore, NoCloseBetween, UnitAt, UnitsBetween}
use Rattle.glob_pattern.specs.Computing.Tokens.{kind_of}
use Rattle.glob_pattern.specs.declared.pattern.tokens.TokenKind.{TokenKind}
use Rattle.glob_pattern.specs.declared.pattern.tokens.TokenKind.TheVariants as kind
use Rattle.glob_pattern.specs.declared.token.Token.TheVariants.{Literal, AnyChar, AnySequence, Recursive, OneOf, NoneOf}
use Rattle.glob_pattern.proofs.GrammarLemmas.Folding.{tokens_of_units-push_deep, folded_one, folded_some, deep_is_Deep}
use Rattle.glob_pattern.proofs.GrammarLemmas.Reading.{UnitsBetween-push}
use Rattle.glob_pattern.proofs.GrammarLemmas.Units.{UnitAt-within}
use Rattle.glob_captures.specs.declared.written.Written.{Written}
use Rattle.glob_captures.specs.Writing.{AreAdjacent, AreWritten, TokenBetween, byte_place}
use Rattle.glob_captures.specs.Private.Written.{IsAfterStars, IsRead, IsTokenEnd, OthersFrom, TokensFrom}

-- one more token, written from their end on
pub AreAdjacent-push : (tokens : List Written) (start end : ℕ) (token : Written) → AreAdjacent start tokens end
    → token.piece.start ≡ end → end ≤ token.piece.end
    → AreAdjacent start (tokens ++ token ∷ []) token.piece.end
AreAdjacent-push [] start end token adjacent from order = (from ∙ adjacent, subst (λ n. n ≤ token.piece.end) adjacent order, refl)
AreAdjacent-push (first ∷ tokens) start end token adjacent from order =
    (adjacent.0, adjacent.1, AreAdjacent-push tokens first.piece.end end token adjacent.2 from order)

-- the same, in the pattern's text
pub AreWritten-push : (text : Text) (f : ℕ) (tokens : List Token) (list : List Written) (m : ℕ) (token : Token)
    (written : Written) (e : ℕ) → AreWritten text f tokens list m → TokenBetween text m token e
    → written.piece ≡ record { start = byte_place text m; end = byte_place text e } → AreWritten text f
    (tokens ++ token ∷ []) (list ++ written ∷ []) e
AreWritten-push text f [] [] m token written e before at piece = subst (λ k. AreWritten text k (token ∷ [])
    (written ∷ []) e) (sym before) (e, at, piece, refl)
AreWritten-push text f [] (w ∷ ws) m token written e before at piece = absurd before
AreWritten-push text f (t ∷ ts) [] m token written e before at piece = absurd before
AreWritten-push text f (t ∷ ts) (w ∷ ws) m token written e before at piece =
    (before.0, before.1, before.2, AreWritten-push text before.0 ts ws m token written e before.3 at piece)

-- the first token is `**` exactly when the first unit is
begins-same : (units : List Token) → begins_recursive (tokens_of_units units) ≡ begins_recursive units
begins-same [] = refl
begins-same (t ∷ []) = ap begins_recursive (folded_one t)
begins-same (t ∷ u ∷ us) =
    cond_both (is_recursive t && is_recursive u) (tokens_of_units (u ∷ us)) (t ∷ tokens_of_units (u ∷ us))
    (λ xs. begins_recursive xs ≡ is_recursive t)
    (λ both. let parts = and_parts (is_recursive t) (is_recursive u) both in begins-same (u ∷ us) ∙ parts.1 ∙ sym parts.0) (λ e. refl)

between_one : (text : Text) (f : ℕ) (t : Token) (e : ℕ) → UnitAt text f t e → TokenBetween text f t e
between_one text f t e unit = (t ∷ [], (e, unit, refl), folded_one t)

-- a first token that is not `**` is the first unit
plain_first : (text : Text) (f : ℕ) (token : Token) (tokens units : List Token) → is_recursive token ≡ false
    → UnitsBetween text f units (length text) → tokens_of_units units ≡ token ∷ tokens
    → (m : ℕ) × UnitAt text f token m × TokensFrom text m tokens
plain_first text f token tokens [] plain between folded = absurd cc
plain_first text f token tokens (u ∷ us) plain between folded =
    cond_both (is_recursive u && begins_recursive us) (tokens_of_units us) (u ∷ tokens_of_units us)
    (λ xs. xs ≡ token ∷ tokens → (m : ℕ) × UnitAt text f token m × TokensFrom text m tokens)
    (λ both same. absurd (both_ways _ plain (sym (ap begins_recursive same) ∙ begins-same us ∙
    (and_parts (is_recursive u) (begins_recursive us) both).1)))
    (λ other same.
    let first : u ≡ token = cc in
    let rest : tokens_of_units us ≡ tokens = cc in
    (between.0, subst (λ t. UnitAt text f t between.0) first between.1, (us, between.2, rest)))
    folded

-- the first unit of a first token that is `**`
recursive_first : (text : Text) (f : ℕ) (tokens units : List Token) → UnitsBetween text f units (length text)
    → tokens_of_units units ≡ Recursive ∷ tokens
    → (m : ℕ) × UnitAt text f Recursive m × (TokensFrom text m (Recursive ∷ tokens) ⊎ OthersFrom text m tokens)
recursive_first text f tokens [] between folded = absurd cc
recursive_first text f tokens (u ∷ us) between folded =
    cond_both (is_recursive u && begins_recursive us) (tokens_of_units us) (u ∷ tokens_of_units us)
    (λ xs. xs ≡ Recursive ∷ tokens → (m : ℕ) × UnitAt text f Recursive m × (TokensFrom text m (Recursive ∷ tokens) ⊎
    OthersFrom text m tokens))
    (λ both same.
    let first = deep_is_Deep u (and_parts (is_recursive u) (begins_recursive us) both).0 in
    (between.0, subst (λ t. UnitAt text f t between.0) first between.1, inl (us, between.2, same)))
    (λ other same.
    let first : u ≡ Recursive = cc in
    let rest : tokens_of_units us ≡ tokens = cc in
    let not_more : begins_recursive us ≡ false =
    elim (and_cases (is_recursive u) (begins_recursive us) other) [
      | inl none ↦ absurd (both_ways _ none (ap is_recursive first))
      | inr none ↦ none
    ] in
    (between.0, subst (λ t. UnitAt text f t between.0) first between.1, inr (us, between.2, rest, not_more)))
    folded

-- where a unit of a kind other than `**` ends
abbrev pub EndsAt : Text → ℕ → TokenKind → ℕ → Type 0
EndsAt text f kind.Literal e = e ≡ f + 1
EndsAt text f kind.AnyChar e = e ≡ f + 1
EndsAt text f kind.AnySequence e = e ≡ f + 1
EndsAt text f kind.Recursive e = ⊥
EndsAt text f kind.OneOf e = ClosesBefore text (f + 2) e
EndsAt text f kind.NoneOf e = ClosesBefore text (f + 3) e

abbrev pub is_recursive_kind : TokenKind → Bool
is_recursive_kind kind.Literal = false
is_recursive_kind kind.AnyChar = false
is_recursive_kind kind.AnySequence = false
is_recursive_kind kind.Recursive = true
is_recursive_kind kind.OneOf = false
is_recursive_kind kind.NoneOf = false

plain_ends : (text : Text) (f : ℕ) (t : Token) (e : ℕ) → is_recursive t ≡ false → UnitAt text f t e → EndsAt text f (kind_of t) e
plain_ends text f (Literal c) e plain unit = unit.4
plain_ends text f AnyChar e plain unit = unit.1
plain_ends text f AnySequence e plain unit = unit.1
plain_ends text f Recursive e plain unit = absurd cc
plain_ends text f (OneOf entries) e plain unit = unit.2
plain_ends text f (NoneOf entries) e plain unit = unit.2

kind_same : (t : Token) → is_recursive_kind (kind_of t) ≡ is_recursive t
kind_same (Literal c) = refl
kind_same AnyChar = refl
kind_same AnySequence = refl
kind_same Recursive = refl
kind_same (OneOf entries) = refl
kind_same (NoneOf entries) = refl

-- a token that is not `**` ends where its unit does
pub IsTokenEnd-plain : (text : Text) (f : ℕ) (kind : TokenKind) (e : ℕ) → is_recursive_kind kind ≡ false →
    ((m : ℕ) → m ≤ length text → EndsAt text f kind m → m ≡ e) → IsTokenEnd text f kind e
unfolding IsTokenEnd
IsTokenEnd-plain text f kind e plain ends token tokens same from =
    let none : is_recursive token ≡ false = sym (kind_same token) ∙ sym (ap is_recursive_kind same) ∙ plain in
    let first = plain_first text f token tokens from.0 none from.1 from.2 in
    let within = UnitAt-within text f token first.0 first.1 in
    let at = ends first.0 within.1 (subst (λ k. EndsAt text f k first.0) (sym same) (plain_ends text f token first.0 none first.1)) in (
      subst (λ k. TokenBetween text f token k) at (between_one text f token first.0 first.1),
      subst
          (λ k. TokensFrom text k tokens) at first.2,
    )

-- nothing is read
pub IsRead-start : (text : Text) (f : ℕ) → IsRead text f f
unfolding IsRead
IsRead-start text f tokens from = inl (refl, from)

-- a `**` unit ends there
recursive_end : (text : Text) (f m e : ℕ) → UnitAt text f Recursive m → IsAfterStars text f e → m ≡ e
recursive_end text f m e unit after =
    elim unit.2 [
      | inl last ↦ elim after [ inl plain ↦ omega arith | inr slashed ↦ absurd (omega arith) ]
      | inr slashed ↦ elim after [ inl plain ↦ absurd (plain.1 slashed.1) | inr other ↦ omega arith ]
    ]

-- a unit at two stars is `**`
recursive_at : (text : Text) (f : ℕ) (t : Token) (m : ℕ) → Has text f star → Has text (f + 1) star → UnitAt text f t m
    → is_recursive t ≡ true
recursive_at text f (Literal c) m at next unit = absurd (unit.2 (sym unit.0.1 ∙ at.1))
recursive_at text f AnyChar m at next unit = let same = sym unit.0.1 ∙ at.1 in absurd (omega arith)
recursive_at text f AnySequence m at next unit = absurd (unit.0.1 next)
recursive_at text f Recursive m at next unit = refl
recursive_at text f (OneOf entries) m at next unit = let same = sym unit.0.1 ∙ at.1 in absurd (omega arith)
recursive_at text f (NoneOf entries) m at next unit = let same = sym unit.0.1 ∙ at.1 in absurd (omega arith)

no_others : (text : Text) (f : ℕ) (units : List Token) → Has text f star → Has text (f + 1) star → UnitsBetween text f
    units (length text) → begins_recursive units ≡ false → ⊥
no_others text f [] at next between none = omega (arith, at.0, between)
no_others text f (u ∷ us) at next between none = both_ways _ none (recursive_at text f u between.0 at next between.1)

-- a `**` of the token at place e ends at the place after its stars
after_stars : (text : Text) (e next : ℕ) (tokens : List Token) → TokensFrom text e (Recursive ∷ tokens) → IsAfterStars text e next
    → UnitAt text e Recursive next × (TokensFrom text next (Recursive ∷ tokens) ⊎ OthersFrom text next tokens)
after_stars text e next tokens from after =
    let first = recursive_first text e tokens from.0 from.1 from.2 in
    let same = recursive_end text e first.0 next first.1 after in
    subst (λ k. UnitAt text e Recursive k × (TokensFrom text k (Recursive ∷ tokens) ⊎ OthersFrom text k tokens)) same (first.1, first.2)

between_more : (text : Text) (f e m : ℕ) → TokenBetween text f Recursive e → UnitAt text e Recursive m → TokenBetween text f Recursive m
between_more text f e m before unit = (
  before.0 ++ Recursive ∷ [],
  UnitsBetween-push text f before.0 e Recursive m before.1 unit,
  sym
      (tokens_of_units-push_deep (Recursive ∷ []) before.0 Recursive refl refl (sym before.2)),
)

-- one more `**` is read
pub IsRead-more : (text : Text) (f e next : ℕ) → IsRead text f e → Has text e star → Has text (e + 1) star
    → IsAfterStars text e next → IsRead text f next
unfolding IsRead
IsRead-more text f e next read at second after tokens from =
    elim (read tokens from) [
      | inl start ↦
          let unit = after_stars text e next tokens start.1 after in
          inr (subst (λ k. TokenBetween text k Recursive next) start.0 (between_one text e Recursive next unit.0), unit.1)
      | inr more ↦
          elim more.1 [
            | inl again ↦
                let unit = after_stars text e next tokens again after in
                inr (between_more text f e next more.0 unit.0, unit.1)
            | inr others ↦ absurd (no_others text e others.0 at second others.1 others.3)
          ]
    ]

no_more : (text : Text) (e : ℕ) (tokens : List Token) → (Has text e star → Has text (e + 1) star → ⊥) → TokensFrom text
    e (Recursive ∷ tokens) → ⊥
no_more text e tokens stop from =
    let first = recursive_first text e tokens from.0 from.1 from.2 in
    stop (first.1.0.0 e (omega arith) (omega arith)) (first.1.0.0 (e + 1) (omega arith) (omega arith))

-- all of the neighbouring `**` are read if no two stars follow
pub IsRead-end : (text : Text) (f e : ℕ) → IsRead text f e → (Has text e star → Has text (e + 1) star → ⊥)
    → IsTokenEnd text f kind.Recursive e
unfolding IsRead IsTokenEnd
IsRead-end text f e read stop token tokens same from =
    let deep : token ≡ Recursive = deep_is_Deep token (sym (kind_same token) ∙ sym (ap is_recursive_kind same)) in
    subst (λ t. TokenBetween text f t e × TokensFrom text e tokens) (sym deep)
    (elim (read tokens (subst (λ t. TokensFrom text f (t ∷ tokens)) deep from)) [
      | inl start ↦ absurd (no_more text e tokens stop start.1)
      | inr more ↦ (
        more.0,
        elim more.1 [
          | inl again ↦ absurd (no_more text e tokens stop again)
          | inr others ↦ (others.0, others.1, others.2)
        ],
      )
    ])

-- the first of the tokens that are left ends there
pub end_of_token : (text : Text) (f e : ℕ) (token : Token) (tokens left : List Token) (kind : TokenKind)
    → IsTokenEnd text f kind e → kind ≡ kind_of token → left ≡ token ∷ tokens → TokensFrom text f left
    → TokenBetween text f token e × TokensFrom text e tokens
unfolding IsTokenEnd
end_of_token text f e token tokens left kind ends same more from = ends token tokens same (subst (TokensFrom text f) more from)

no_units : (text : Text) (f : ℕ) (units : List Token) → UnitsBetween text f units (length text) → tokens_of_units units
    ≡ [] → f ≡ length text
no_units text f [] between folded = between
no_units text f (t ∷ ts) between folded = absurd (omega (arith, folded_some t ts, ap length folded))

-- if no token is left, the text ends
pub end_of_text : (text : Text) (f : ℕ) → TokensFrom text f [] → f ≡ length text
end_of_text text f from = no_units text f from.0 from.1 from.2
