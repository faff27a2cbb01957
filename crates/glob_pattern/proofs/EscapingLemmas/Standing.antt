-- A text written so that each character stands for itself is accepted, and matches the texts that are the same.
use Rattle.std.proofs.Common.{◌≡◌, ℕ, suc, ◌+◌, ◌-◌, ◌<◌, ◌≢◌, ◌↔◌, ◌⊎◌, inl, inr, ⊎_elim, Bool, true, false, ◌&&◌}
use Rattle.std.proofs.Common.{◌||◌, ◌==◌, cond, [], ◌∷◌, ◌++◌, length, take, drop, map, flat_map, slice_index, IsTrue}
use Rattle.std.proofs.Common.{IsFalse, refl, sym, ap, ap₂, subst, ◌∙◌, arith}
use Rattle.std.proofs.lemmas.Bool.{false≢true, or_parts, or_cases, and_parts, and_right, and_from, not_from_false}
use Rattle.std.proofs.lemmas.Bool.{eqb-true, eqb-false, ne_eqb, ltb-true, ltb-false}
use Rattle.std.specs.Char.{to_ascii_lowercase}
use Rattle.glob_pattern.specs.Grammar.Characters.{star, question_mark, open_bracket, close_bracket, exclamation_mark}
use Rattle.glob_text.specs.Characters.{slash, dot}
use Rattle.glob_text.specs.Text.{Text, between}
use Rattle.glob_pattern.specs.Grammar.Brackets.{is_same, entries_of}
use Rattle.glob_pattern.specs.Grammar.Tokens.{Token, is_recursive}
use Rattle.glob_pattern.specs.Grammar.Units.{UnitAt, HasTokens}
use Rattle.glob_pattern.specs.Matching.Taking.{is_excluded_separator, is_excluded_dot, is_free}
use Rattle.glob_pattern.specs.Matching.Texts.{Matches}
use Rattle.glob_pattern.specs.Escaping.{is_special, escaped_character, escaped_text}
use Rattle.glob_pattern.specs.Laws.{SameTexts, EscapedAccepted, EscapedMatchesSame, EscapedMatchesItself}
use Rattle.glob_pattern.specs.declared.options.MatchOptions.{MatchOptions}
use Rattle.glob_pattern.specs.declared.token.bracket.Entry.TheVariants.{Single}
use Rattle.glob_pattern.specs.declared.token.Token.TheVariants.{Literal, OneOf}
use Rattle.glob_pattern.proofs.GrammarLemmas.Accepted.{one_reading}
use Rattle.glob_pattern.proofs.GrammarLemmas.Accepting.{accepted_by_tokens}
use Rattle.glob_pattern.proofs.Places.{get_or-at_drop, drop-at_drop, length-at_drop}
use Rattle.glob_pattern.proofs.GrammarLemmas.WrittenUnits.{WritesUnit, HasTokens-written, UnitAt-plain, tokens-from_Matches}
use Rattle.glob_pattern.proofs.MatchingLemmas.Matched.{match_by_tokens}
use Rattle.glob_pattern.proofs.MatchingLemmas.Literals.{IsLiteral, SameTexts-from_TokensMatch, TokensMatch-from_SameTexts}
use Rattle.glob_pattern.proofs.MatchingLemmas.PlainPatterns.{SameTexts-with_case, SameTexts-itself}

-- the token of a bracket with one character
abbrev pub bracketed : ℕ → Token
bracketed c = OneOf (Single c ∷ [])

-- no rule of brackets, components or case is about the character
pub record IsApart (c : ℕ) : Type 0 where
  pub no_mark : c ≢ exclamation_mark
  pub no_slash : c ≢ slash
  pub no_dot : c ≢ dot
  pub no_letter : (x : ℕ) → to_ascii_lowercase x ≡ to_ascii_lowercase c → x ≡ c

-- what is written for a character to stand for itself, and its token: the character, or a bracket of its own
abbrev pub Stands : (written : Text) → Token → (c : ℕ) → Type 0
Stands written token c =
    ((written ≡ c ∷ []) × (token ≡ Literal c) × ((c ≢ question_mark) × (c ≢ star) × (c ≢ open_bracket)))
    ⊎ ((written ≡ open_bracket ∷ c ∷ close_bracket ∷ []) × (token ≡ bracketed c) × IsApart c)

-- a character whose lower-case form is not a letter is that form
lowercase-apart : (c d : ℕ) → (d < 97) ⊎ (122 < d) → to_ascii_lowercase c ≡ d → c ≡ d
lowercase-apart c d apart e = grind (arith, ltb-true, ltb-false)

-- a character that is not a letter and that no rule is about
pub IsApart-from_number : (c d : ℕ) → c ≡ d → (d < 97) ⊎ (122 < d) → to_ascii_lowercase d ≡ d → d ≢ exclamation_mark
    → d ≢ slash → d ≢ dot → IsApart c
IsApart-from_number c d is apart own no_mark no_slash no_dot =
    subst IsApart (sym is) (record {
      no_mark = no_mark;
      no_slash = no_slash;
      no_dot = no_dot;
      no_letter = λ x e. lowercase-apart x d apart (e ∙ own);
    })

-- a character in a bracket of its own is a unit
UnitAt-bracketed : (whole rest : Text) (f c : ℕ) → IsApart c → drop f whole ≡ open_bracket ∷ c ∷ close_bracket ∷ rest
    → UnitAt whole f (bracketed c) (f + 3)
UnitAt-bracketed whole rest f c apart e =
    let l : length whole ≡ f + suc (suc (suc (length rest))) = length-at_drop whole (c ∷ close_bracket ∷ rest) f open_bracket e in
    let second : drop (f + 1) whole ≡ c ∷ close_bracket ∷ rest = drop-at_drop whole (c ∷ close_bracket ∷ rest) f open_bracket e in
    let third : drop (f + 1 + 1) whole ≡ close_bracket ∷ rest = drop-at_drop whole (close_bracket ∷ rest) (f + 1) c second in
    let at : f + 1 + 1 ≡ f + 3 - 1 = omega arith in
    let width : f + 3 - 1 - (f + 1) ≡ 1 = omega arith in
    let closing : slice_index whole (f + 3 - 1) ≡ close_bracket =
    sym (ap (slice_index whole) at) ∙ get_or-at_drop whole rest (f + 1 + 1) close_bracket 0 third in
    let inside : between whole (f + 1) (f + 3 - 1) ≡ c ∷ [] = ap₂ (λ n zs. take n zs) width second in (
      (omega arith, get_or-at_drop whole (c ∷ close_bracket ∷ rest) f open_bracket 0 e),
      (λ has. apart.no_mark (sym (get_or-at_drop whole (close_bracket ∷ rest) (f + 1) c 0 second) ∙ has.1)),
      (omega arith, (omega arith, closing), λ k low high. absurd (omega arith)),
      ap entries_of (sym inside),
    )

-- only such a character itself is the same as it
same-apart : (case : Bool) (c x : ℕ) → IsApart x → IsTrue (is_same case c x) → c ≡ x
same-apart case c x apart h =
    ⊎_elim (λ e. eqb-true c x e) (λ small. apart.no_letter c (eqb-true _ _ (and_parts _ _ small).1)) (or_cases _ _ h)

-- no rule excludes such a character from wildcards
apart-is_free : (o : MatchOptions) (opening : Bool) (c : ℕ) → IsApart c → IsTrue (is_free o opening c)
apart-is_free o opening c apart =
    and_from _ _ (not_from_false (is_excluded_separator o c) (and_right o.require_literal_separator (c == slash)
    (ne_eqb c slash apart.no_slash)))
    (not_from_false (is_excluded_dot o opening c) (and_right (o.require_literal_leading_dot && opening) (c == dot)
    (ne_eqb c dot apart.no_dot)))

-- a test that is implied by another changes nothing beside it
and-implied : (a b : Bool) → (IsTrue b → IsTrue a) → (a && (b || false)) ≡ b
and-implied true true h = refl
and-implied true false h = refl
and-implied false true h = absurd (false≢true (h refl))
and-implied false false h = refl

-- a character in a bracket of its own stands for itself
bracketed-literal : (o : MatchOptions) (x : ℕ) → IsApart x → IsLiteral o (bracketed x) x
bracketed-literal o x apart = (
  refl,
  λ opening c. and-implied (is_free o opening c) (is_same o.case_sensitive c x)
      (λ h. subst (λ y. IsTrue (is_free o opening y)) (sym (same-apart o.case_sensitive c x apart h)) (apart-is_free o opening x apart)),
)

-- a token that stands for a character takes the characters that are the same
pub stands-literal : (o : MatchOptions) (written : Text) (token : Token) (x : ℕ) → Stands written token x → IsLiteral o token x
stands-literal o written token x (inl plain) = subst (λ t. IsLiteral o t x) (sym plain.1) (refl, λ opening c. refl)
stands-literal o written token x (inr own) = subst (λ t. IsLiteral o t x) (sym own.1) (bracketed-literal o x own.2)

-- Below, each character is written so that it stands for itself.
module _ (written : ℕ → Text) (token : ℕ → Token) (each : (c : ℕ) → Stands (written c) (token c) c) where
  -- it is a unit
  pub stands-writes : (c : ℕ) → WritesUnit written token c
  stands-writes c whole rest f e = by (written c) (token c) (each c) e
    where
      by : (w : Text) (t : Token) → Stands w t c → drop f whole ≡ w ++ rest → UnitAt whole f t (f + length w)
      by w t (inl plain) at =
          subst (λ z. UnitAt whole f z (f + length w)) (sym plain.1)
          (subst (λ z. UnitAt whole f (Literal c) (f + length z)) (sym plain.0)
          (UnitAt-plain whole rest f c plain.2 (at ∙ ap (λ z. z ++ rest) plain.0)))
      by w t (inr own) at =
          subst (λ z. UnitAt whole f z (f + length w)) (sym own.1)
          (subst (λ z. UnitAt whole f (bracketed c) (f + length z)) (sym own.0)
          (UnitAt-bracketed whole rest f c own.2 (at ∙ ap (λ z. z ++ rest) own.0)))

  -- it is not `**`
  stands-shallow : (c : ℕ) → IsFalse (is_recursive (token c))
  stands-shallow c = by (written c) (token c) (each c)
    where
      by : (w : Text) (t : Token) → Stands w t c → IsFalse (is_recursive t)
      by w t (inl plain) = subst (λ z. IsFalse (is_recursive z)) (sym plain.1) refl
      by w t (inr own) = subst (λ z. IsFalse (is_recursive z)) (sym own.1) refl

  -- the tokens of a text
  pub HasTokens-stands : (text : Text) → HasTokens (flat_map written text) (map token text)
  HasTokens-stands text = HasTokens-written written token text stands-shallow (λ k l. stands-writes (slice_index text k))

  -- it matches the texts that are the same as it
  pub stands_matches_same : (o : MatchOptions) (text other : Text) → (Matches o (flat_map written text) other ↔
      SameTexts o.case_sensitive other text)
  stands_matches_same o text other =
      let literal : (x : ℕ) → IsLiteral o (token x) x = λ x. stands-literal o (written x) (token x) x (each x) in
      let has : HasTokens (flat_map written text) (map token text) = HasTokens-stands text in (
        (λ m. SameTexts-from_TokensMatch o token literal text other
            (tokens-from_Matches o (flat_map written text) other (map token text) (λ others h. one_reading
            (flat_map written text) others (map token text) h has) m)),
        (λ s. match_by_tokens o (flat_map written text) other (map token text) has (TokensMatch-from_SameTexts o token
            literal text other s)),
      )

  -- case-sensitively, it matches only the text
  pub stands_matches_itself : (o : MatchOptions) (text other : Text) → IsTrue o.case_sensitive →
      (Matches o (flat_map written text) other ↔ (text ≡ other))
  stands_matches_itself o text other with_case =
      let both : Matches o (flat_map written text) other ↔ SameTexts o.case_sensitive other text = stands_matches_same o text other in (
        (λ m. sym (SameTexts-with_case other text (subst (λ case. SameTexts case other text) with_case (both.0 m)))),
        (λ e. both.1 (SameTexts-itself o.case_sensitive other text (sym e))),
      )

-- the token of an escaped character
abbrev pub escaped_token : ℕ → Token
escaped_token c = cond (is_special c) (bracketed c) (Literal c)

-- a special character is apart
pub special-apart : (c : ℕ) → IsTrue (is_special c) → IsApart c
special-apart c h =
    ⊎_elim (λ three. ⊎_elim (λ two. ⊎_elim
    (λ one. IsApart-from_number c question_mark (eqb-true _ _ one) (inl (omega arith)) refl (omega arith) (omega arith) (omega arith))
    (λ one. IsApart-from_number c star (eqb-true _ _ one) (inl (omega arith)) refl (omega arith) (omega arith)
    (omega arith)) (or_cases _ _ two))
    (λ one. IsApart-from_number c open_bracket (eqb-true _ _ one) (inl (omega arith)) refl (omega arith) (omega arith)
    (omega arith)) (or_cases _ _ three))
    (λ one. IsApart-from_number c close_bracket (eqb-true _ _ one) (inl (omega arith)) refl (omega arith) (omega arith)
    (omega arith)) (or_cases _ _ h)

-- a character that is not special is no wildcard
pub not_special : (c : ℕ) → IsFalse (is_special c) → (c ≢ question_mark) × (c ≢ star) × (c ≢ open_bracket)
not_special c h =
    let outer : IsFalse (c == question_mark || c == star || c == open_bracket) × IsFalse (c == close_bracket) = or_parts _ _ h in
    let middle : IsFalse (c == question_mark || c == star) × IsFalse (c == open_bracket) = or_parts _ _ outer.0 in
    let inner : IsFalse (c == question_mark) × IsFalse (c == star) = or_parts _ _ middle.0 in
    (eqb-false c question_mark inner.0, eqb-false c star inner.1, eqb-false c open_bracket middle.1)

-- an escaped character stands for itself
pub escaped_stands : (c : ℕ) → Stands (escaped_character c) (escaped_token c) c
escaped_stands c = by (is_special c) refl
  where
    by : (b : Bool) → is_special c ≡ b → Stands (cond b (open_bracket ∷ c ∷ close_bracket ∷ []) (c ∷ []))
        (cond b (bracketed c) (Literal c)) c
    by true special = inr (refl, refl, special-apart c special)
    by false other = inl (refl, refl, not_special c other)

-- the units of an escaped text are the units of its escaped characters
pub escaped_accepted : EscapedAccepted
escaped_accepted text =
    accepted_by_tokens (escaped_text text) (map escaped_token text) (HasTokens-stands escaped_character escaped_token escaped_stands text)

-- an escaped text matches the texts that are the same as it
pub escaped_matches_same : EscapedMatchesSame
escaped_matches_same = stands_matches_same escaped_character escaped_token escaped_stands

-- case-sensitively, an escaped text matches only the text
pub escaped_matches_itself : EscapedMatchesItself
escaped_matches_itself = stands_matches_itself escaped_character escaped_token escaped_stands
