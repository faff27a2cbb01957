-- The only alternative of an escaped text is itself, and it matches the text it is made from.
use Rattle.std.proofs.Common.{◌≡◌, ℕ, suc, ◌+◌, ◌<◌, ◌≤◌, ◌≢◌, ◌⊎◌, ◌↔◌, inl, inr, ⊎_elim, Bool, true, false, ◌==◌}
use Rattle.std.proofs.Common.{cond, List, [], ◌∷◌, ◌++◌, length, get_or, drop, IsTrue, IsFalse, refl, sym, ap, subst}
use Rattle.std.proofs.Common.{◌∙◌, arith, append_assoc}
use Rattle.std.proofs.lemmas.Bool.{or_parts, or_cases, eqb-true, ne_eqb, eq-eqb, lt-ltb, le-ltb, and_right}
use Rattle.std.proofs.lemmas.List.{append-nil}
use Rattle.std.proofs.lemmas.Str.{chars_from_encodes}
use Rattle.std.specs.Prelude.{encode_utf8, encode_utf8_all, nat_lt}
use Rattle.std.specs.Str.{chars, IsUtf8}
use Rattle.glob_text.specs.Text.{Text, has}
use Rattle.glob_pattern.specs.Grammar.Characters.{open_bracket, close_bracket, exclamation_mark}
use Rattle.glob_pattern.specs.Grammar.Tokens.{Token}
use Rattle.glob_pattern.specs.Matching.Texts.{Matches}
use Rattle.glob_pattern.specs.declared.options.MatchOptions.{MatchOptions}
use Rattle.glob_pattern.specs.declared.token.Token.TheVariants.{Literal}
use Rattle.glob_pattern.proofs.EscapingLemmas.Standing.{IsApart, IsApart-from_number, Stands, bracketed, not_special}
use Rattle.glob_pattern.proofs.EscapingLemmas.Standing.{special-apart, stands_matches_itself}
use Rattle.glob_pattern.proofs.Places.{get_or-at_drop, drop-at_drop, length-at_drop}
use Rattle.glob_set.specs.declared.braces.lexemes.Lexeme.{Lexeme}
use Rattle.glob_set.specs.declared.braces.lexemes.Lexeme.TheVariants as lexeme
use Rattle.glob_set.specs.Braces.{AreAlternatives, HasAlternatives, bracket_end, comma, close_brace, end_at, lexeme_at}
use Rattle.glob_set.specs.Braces.{lexeme_of, lexemes, lexemes_from, open_brace}
use Rattle.glob_set.specs.BraceEscaping.{StandsFor, escaped_character, escaped_text, is_special}

-- a special character is apart
apart : (c : ℕ) → IsTrue (is_special c) → IsApart c
apart c h =
    ⊎_elim (λ own. special-apart c own)
    (λ brace. ⊎_elim
    (λ one. IsApart-from_number c open_brace (eqb-true _ _ one) (inr (omega arith)) refl (omega arith) (omega arith) (omega arith))
    (λ one. IsApart-from_number c close_brace (eqb-true _ _ one) (inr (omega arith)) refl (omega arith) (omega arith)
    (omega arith)) (or_cases _ _ brace))
    (or_cases _ _ h)

-- what an escaped character is as a token
abbrev escaped_token : ℕ → Token
escaped_token c = cond (is_special c) (bracketed c) (Literal c)

-- an escaped character stands for itself
stands : (c : ℕ) → Stands (escaped_character c) (escaped_token c) c
stands c = by (is_special c) refl
  where
    by : (b : Bool) → is_special c ≡ b → Stands (cond b (open_bracket ∷ c ∷ close_bracket ∷ []) (c ∷ []))
        (cond b (bracketed c) (Literal c)) c
    by true special = inr (refl, refl, apart c special)
    by false other = inl (refl, refl, not_special c (or_parts _ _ other).0)

-- the lexeme is the character itself
abbrev Is : Lexeme → ℕ → Type 0
Is x c = (x ≡ lexeme.Literal c) ⊎ ((x ≡ lexeme.Comma) × (c ≡ comma))

-- one more character outside of braces
grown : (l : List Lexeme) (t : Text) (x : Lexeme) (c : ℕ) → Is x c → HasAlternatives true l (t ∷ [])
    → HasAlternatives true (l ++ x ∷ []) ((t ++ encode_utf8 c) ∷ [])
grown l t x c (inl is) has =
    subst (λ z. HasAlternatives true (l ++ z ∷ []) ((t ++ encode_utf8 c) ∷ [])) (sym is) (HasAlternatives.literal true l (t ∷ []) c has)
grown l t x c (inr is) has =
    subst (λ z. HasAlternatives true (l ++ z ∷ []) ((t ++ encode_utf8 c) ∷ [])) (sym is.0)
    (subst (λ d. HasAlternatives true (l ++ lexeme.Comma ∷ []) ((t ++ encode_utf8 d) ∷ [])) (sym is.1)
    (HasAlternatives.comma_outside l (t ∷ []) has))

-- a character that is not special is itself
lexeme_of-plain : (c : ℕ) → IsFalse (is_special c) → Is (lexeme_of c) c
lexeme_of-plain c other =
    let braces = or_parts _ _ (or_parts _ _ other).1 in
    by (c == comma) refl braces.0 braces.1
  where
    by : (b : Bool) → c == comma ≡ b → IsFalse (c == open_brace) → IsFalse (c == close_brace) → Is (lexeme_of c) c
    by true is no_open no_close = inr (rw (no_open, is) refl, eqb-true c comma is)
    by false not no_open no_close = inl (rw (no_open, not, no_close) refl)

-- the test of a place with another character
has_other : (whole rest : Text) (p c d : ℕ) → c ≢ d → drop p whole ≡ c ∷ rest → has whole p d ≡ false
has_other whole rest p c d apart at =
    rw (ne_eqb (get_or whole p 0) d (λ e. apart (sym (get_or-at_drop whole rest p c 0 at) ∙ e)))
    (and_right (nat_lt p (length whole)) false refl)

-- the test of a place with this character
has_this : (whole rest : Text) (p c : ℕ) → drop p whole ≡ c ∷ rest → has whole p c ≡ true
has_this whole rest p c at =
    let long : length whole ≡ p + suc (length rest) = length-at_drop whole rest p c at in
    rw (lt-ltb p (length whole) (omega arith), eq-eqb (get_or whole p 0) c (get_or-at_drop whole rest p c 0 at)) refl

-- only `[` begins a bracket
bracket_end-plain : (whole rest : Text) (p c : ℕ) → c ≢ open_bracket → drop p whole ≡ c ∷ rest → bracket_end whole p ≡ p
bracket_end-plain whole rest p c other at = rw (has_other whole rest p c open_bracket other at) refl

-- a bracket of one character is three characters long
bracket_end-own : (whole rest : Text) (p c : ℕ) → IsApart c → drop p whole ≡ open_bracket ∷ c ∷ close_bracket ∷ rest
    → bracket_end whole p ≡ p + 3
bracket_end-own whole rest p c own at =
    let second : drop (p + 1) whole ≡ c ∷ close_bracket ∷ rest = drop-at_drop whole (c ∷ close_bracket ∷ rest) p open_bracket at in
    let third : drop (p + 1 + 1) whole ≡ close_bracket ∷ rest = drop-at_drop whole (close_bracket ∷ rest) (p + 1) c second in
    rw (
      has_this whole (c ∷ close_bracket ∷ rest) p open_bracket at,
      has_other whole (close_bracket ∷ rest)
          (p + 1) c exclamation_mark own.no_mark second,
      third,
    )
    (omega arith)

-- the lexemes of characters from place p on, after lexemes with one alternative: there is still one
Grows : (whole rest : Text) (p : ℕ) → Type 0
Grows whole rest p =
    (e : ℕ) (l : List Lexeme) (t : Text) → e ≤ p → HasAlternatives true l (t ∷ [])
    → HasAlternatives true (l ++ lexemes_from whole p e rest) ((t ++ encode_utf8_all rest) ∷ [])

-- one more character, whose lexeme is the character itself
grown_by : (whole rest : Text) (p e f c : ℕ) (x : Lexeme) (l : List Lexeme) (t : Text) → end_at whole p e ≡ f → lexeme_at p f c ≡ x → Is x c
    → HasAlternatives true l (t ∷ [])
    → ((m : List Lexeme) (u : Text) → HasAlternatives true m (u ∷ []) → HasAlternatives true (m ++ lexemes_from whole
    (p + 1) f rest) ((u ++ encode_utf8_all rest) ∷ []))
    → HasAlternatives true (l ++ lexemes_from whole p e (c ∷ rest)) ((t ++ encode_utf8_all (c ∷ rest)) ∷ [])
grown_by whole rest p e f c x l t end at is alone later =
    let m = lexemes_from whole (p + 1) f rest in
    let first : x ∷ m ≡ lexemes_from whole p e (c ∷ rest) =
    ap (λ z. z ∷ m) (sym at) ∙ ap (λ k. lexeme_at p k c ∷ lexemes_from whole (p + 1) k rest) (sym end) in
    subst (λ z. HasAlternatives true (l ++ z) ((t ++ encode_utf8_all (c ∷ rest)) ∷ [])) first
    (subst (λ z. HasAlternatives true z ((t ++ encode_utf8_all (c ∷ rest)) ∷ [])) (append_assoc l (x ∷ []) m)
    (subst (λ z. HasAlternatives true ((l ++ x ∷ []) ++ m) (z ∷ [])) (append_assoc t (encode_utf8 c) (encode_utf8_all rest))
    (later (l ++ x ∷ []) (t ++ encode_utf8 c) (grown l t x c is alone))))

-- after the last bracket, which ends at place p or before
end_at-past : (whole : Text) (p e : ℕ) → e ≤ p → end_at whole p e ≡ bracket_end whole p
end_at-past whole p e past = rw (le-ltb p e past) refl

-- in it
end_at-within : (whole : Text) (p e : ℕ) → p < e → end_at whole p e ≡ e
end_at-within whole p e within = rw (lt-ltb p e within) refl

lexeme_at-past : (p e c : ℕ) → e ≤ p → lexeme_at p e c ≡ lexeme_of c
lexeme_at-past p e c past = rw (le-ltb p e past) refl

lexeme_at-within : (p e c : ℕ) → p < e → lexeme_at p e c ≡ lexeme.Literal c
lexeme_at-within p e c within = rw (lt-ltb p e within) refl

-- a character that is not special
grows_plain : (whole rest : Text) (p c : ℕ) → IsFalse (is_special c) → drop p whole ≡ c ∷ rest → Grows whole rest
    (p + 1) → Grows whole (c ∷ rest) p
unfolding Grows
grows_plain whole rest p c other at later e l t low alone =
    grown_by whole rest p e p c (lexeme_of c) l t
    (end_at-past whole p e low ∙ bracket_end-plain whole rest p c (not_special c (or_parts _ _ other).0).2 at)
    (lexeme_at-past p p c (omega arith)) (lexeme_of-plain c other) alone
    (λ m u. later p m u (omega arith))

-- a bracket of one character
grows_own : (whole rest : Text) (p c : ℕ) → IsApart c → drop p whole ≡ open_bracket ∷ c ∷ close_bracket ∷ rest
    → Grows whole rest (p + 1 + 1 + 1)
    → Grows whole (open_bracket ∷ c ∷ close_bracket ∷ rest) p
unfolding Grows
grows_own whole rest p c own at later e l t low alone =
    grown_by whole (c ∷ close_bracket ∷ rest) p e (p + 3) open_bracket (lexeme.Literal open_bracket) l t
    (end_at-past whole p e low ∙ bracket_end-own whole rest p c own at) (lexeme_at-within p (p + 3) open_bracket
    (omega arith)) (inl refl) alone
    (λ m u more. grown_by whole (close_bracket ∷ rest) (p + 1) (p + 3) (p + 3) c (lexeme.Literal c) m u
    (end_at-within whole (p + 1) (p + 3) (omega arith)) (lexeme_at-within (p + 1) (p + 3) c (omega arith)) (inl refl) more
    (λ n v most. grown_by whole rest (p + 1 + 1) (p + 3) (p + 3) close_bracket (lexeme.Literal close_bracket) n v
    (end_at-within whole (p + 1 + 1) (p + 3) (omega arith)) (lexeme_at-within (p + 1 + 1) (p + 3) close_bracket
    (omega arith)) (inl refl) most
    (λ k w. later (p + 3) k w (omega arith))))

-- none
grows_none : (whole : Text) (p : ℕ) → Grows whole [] p
unfolding Grows
grows_none whole p e l t low alone =
    subst (λ z. HasAlternatives true z ((t ++ []) ∷ [])) (sym (append-nil l)) (subst (λ z. HasAlternatives true l
    (z ∷ [])) (sym (append-nil t)) alone)

-- escaped characters
escaped_grows : (whole cs : Text) (p : ℕ) → drop p whole ≡ escaped_text cs → Grows whole (escaped_text cs) p
escaped_grows whole [] p at = grows_none whole p
escaped_grows whole (c ∷ cs) p at = by (is_special c) refl at (λ q. escaped_grows whole cs q)
  where
    by : (b : Bool) → is_special c ≡ b → drop p whole ≡ cond b (open_bracket ∷ c ∷ close_bracket ∷ []) (c ∷ []) ++ escaped_text cs
        → ((q : ℕ) → drop q whole ≡ escaped_text cs → Grows whole (escaped_text cs) q)
        → Grows whole (cond b (open_bracket ∷ c ∷ close_bracket ∷ []) (c ∷ []) ++ escaped_text cs) p
    by false other here later = grows_plain whole (escaped_text cs) p c other here (later (p + 1) (drop-at_drop whole
        (escaped_text cs) p c here))
    by true special here later =
        let rest = escaped_text cs in
        let second : drop (p + 1) whole ≡ c ∷ close_bracket ∷ rest = drop-at_drop whole (c ∷ close_bracket ∷ rest) p open_bracket here in
        let third : drop (p + 1 + 1) whole ≡ close_bracket ∷ rest = drop-at_drop whole (close_bracket ∷ rest) (p + 1) c second in
        grows_own whole rest p c (apart c special) here (later (p + 1 + 1 + 1) (drop-at_drop whole rest (p + 1 + 1) close_bracket third))

-- the only alternative of an escaped text
only_alternative : (cs : Text) → AreAlternatives (escaped_text cs) (encode_utf8_all (escaped_text cs) ∷ [])
unfolding AreAlternatives lexemes Grows
only_alternative cs = escaped_grows (escaped_text cs) cs 0 refl 0 [] [] (omega arith) (HasAlternatives.at_start true)

-- an escaped text stands for the text
pub stands_for : (escaped text : Text) → IsUtf8 escaped → escaped ≡ encode_utf8_all (escaped_text (chars text)) → StandsFor escaped text
unfolding StandsFor
stands_for escaped text utf8 is =
    let written : escaped_text (chars text) ≡ chars escaped = chars_from_encodes (escaped_text (chars text)) escaped utf8 (sym is) in (
      subst (λ z. AreAlternatives z (escaped ∷ [])) written
          (subst (λ z. AreAlternatives (escaped_text (chars text)) (z ∷ [])) (sym is) (only_alternative (chars text))),
      subst (λ z. (o : MatchOptions) (other : Text) → IsTrue o.case_sensitive → (Matches o z other ↔ (chars text ≡ other))) written
          (λ o. stands_matches_itself escaped_character escaped_token stands o (chars text)),
    )
