-- A text is escaped once each of its characters is written escaped.
use Rattle.std.proofs.Common.{◌≡◌, ℕ, Bool, true, false, cond, [], ◌∷◌, ◌++◌, refl, ap, sym, ◌∙◌, ⊎_elim, arith}
use Rattle.std.proofs.lemmas.Bool.{cases_lt, ne_eqb}
use Rattle.std.proofs.lemmas.List.{append-nil}
use Rattle.std.proofs.lemmas.List.Concat.{flat_map-append}
use Rattle.std.proofs.lemmas.List.Sums.{sum_by-append, sum_by-cons}
use Rattle.std.proofs.lemmas.Str.{chars_from_encodes, encode_ascii, encodes-append}
use Rattle.std.specs.Prelude.{encode_utf8, encode_utf8_all}
use Rattle.std.specs.Str.{chars, IsUtf8}
use Rattle.std.specs.List.{count_by, flat_map}
use Rattle.glob_text.specs.Text.{Text}
use Rattle.glob_pattern.specs.Grammar.Characters.{star, question_mark, open_bracket, close_bracket}
use Rattle.glob_pattern.specs.Escaping.{is_special, escaped_character, escaped_text}

-- Any other character stays as it is.
escaped_character-plain : (c : ℕ) → is_special c ≡ false → escaped_character c ≡ c ∷ []
escaped_character-plain c e = rw e refl

-- What is not counted fails the test.
uncounted : (b : Bool) → ◌≡◌ {A = ℕ} (cond b 1 0) 0 → b ≡ false
uncounted true e = absurd (omega arith)
uncounted false e = refl

-- A character is not special if no special byte is counted in it.
plain_by_bytes : (c : ℕ) → count_by is_special (encode_utf8 c) ≡ 0 → is_special c ≡ false
plain_by_bytes c none = ⊎_elim
    (λ low. uncounted (is_special c) (omega (arith, sum_by-cons (λ x. cond (is_special x) 1 0) c [], rw (encode_ascii c low) at none)))
    (λ high. rw (
      ne_eqb c question_mark (λ e. omega (arith, e, high)),
      ne_eqb c star (λ e. omega (arith, e, high)),
      ne_eqb c open_bracket (λ e. omega (arith, e, high)),
      ne_eqb c close_bracket (λ e. omega (arith, e, high)),
    ) refl)
    (cases_lt c 128)

-- A text in whose bytes no special character is counted stays as it is.
pub escaped_text-uncounted : (text : Text) → count_by is_special (encode_utf8_all text) ≡ 0 → escaped_text text ≡ text
escaped_text-uncounted [] e = refl
escaped_text-uncounted (c ∷ cs) e =
    let both = sum_by-append (λ x. cond (is_special x) 1 0) (encode_utf8 c) (encode_utf8_all cs) in
    rw (escaped_character-plain c (plain_by_bytes c (omega (arith, both, e))), escaped_text-uncounted cs (omega (arith, both, e))) refl

-- The characters of the output are what was written for each character of the text.
pub written_chars : (f : ℕ → Text) (written cs : Text) → IsUtf8 written → written ≡ encode_utf8_all (flat_map f cs)
    → chars written ≡ flat_map f cs
written_chars f written cs utf8 is = sym (chars_from_encodes (flat_map f cs) written utf8 (sym is))

-- What is written for one more character.
pub written_more : (f : ℕ → Text) (written new cs : Text) (c : ℕ) → written ≡ encode_utf8_all (flat_map f cs)
    → new ≡ written ++ encode_utf8_all (f c) → new ≡ encode_utf8_all (flat_map f (cs ++ c ∷ []))
written_more f written new cs c so_far is =
    is ∙ ap (λ z. z ++ encode_utf8_all (f c)) so_far
    ∙ sym (encodes-append (flat_map f cs) (f c))
    ∙ ap encode_utf8_all (sym (flat_map-append f cs (c ∷ []) ∙ ap (λ z. flat_map f cs ++ z) (append-nil (f c))))
