-- Texts as bytes and as characters.
use Rattle.std.proofs.Common.{◌≡◌, ℕ, suc, ◌<◌, ◌≤◌, ⊎_elim, Bool, true, false, not, ◌&&◌, ◌||◌, ◌==◌, List, [], ◌∷◌}
use Rattle.std.proofs.Common.{◌++◌, length, map, get_or, refl, sym, ap, ap₂, ◌∙◌, arith}
use mathlib.Core.Bool.{or-false}
use Rattle.std.specs.List.{list_any, join_with_byte}
use Rattle.std.specs.Path.{has_no_slash}
use Rattle.std.specs.Str.{chars, IsUtf8}
use lib.Utf8.{encode, encodes}
use Rattle.std.proofs.lemmas.Str.{encode_ascii, encodes-chars, chars-append, inside_one, char_from_byte}
use Rattle.std.proofs.lemmas.Bool.{both_ways, or_from, not-true, eqb-true, ne_eqb, cases_lt, false_from_ne_true}
use Rattle.std.proofs.lemmas.List.{append-nil}
use Rattle.std.proofs.lemmas.List.Folds.{list_any-append}
use Rattle.std.proofs.lemmas.Slice.Eq.{bytes_eq-Decides}
use Rattle.glob_text.specs.Characters.{slash, dot}
use Rattle.glob_pattern.specs.Grammar.Characters.{star, question_mark, open_bracket, is_wildcard}
use Rattle.glob_text.specs.Text.{Text}
use Rattle.glob_text.specs.Pieces.{begins_with}
use Rattle.glob_walk.specs.Components.{is_literal, is_recursive}
use Rattle.glob_walk.proofs.ListingLemmas.ComponentKinds.{recursive_is}

-- a test that only ASCII characters pass
abbrev IsOfAscii : (ℕ → Bool) → Type 0
IsOfAscii p = (c : ℕ) → 128 ≤ c → p c ≡ false

none_high : (p : ℕ → Bool) → IsOfAscii p → (xs : Text) → ((k : ℕ) → k < length xs → 128 ≤ get_or xs k 0) → list_any p xs ≡ false
none_high p low [] high = refl
none_high p low (x ∷ xs) high = or_from (p x) (list_any p xs) (low x (high 0 (omega arith))) (none_high p low xs
    (λ k l. high (suc k) (omega (arith, l))))

any-encode : (p : ℕ → Bool) → IsOfAscii p → (c : ℕ) → list_any p (encode c) ≡ p c
any-encode p low c = ⊎_elim ascii wide (cases_lt c 128)
  where
    ascii : c < 128 → list_any p (encode c) ≡ p c
    ascii l = ap (list_any p) (encode_ascii c l) ∙ or-false (p c)

    wide : 128 ≤ c → list_any p (encode c) ≡ p c
    wide l = none_high p low (encode c) (λ k in'. ⊎_elim
        (λ small. absurd (omega (arith, inside_one c [] (encode c) k (sym (append-nil (encode c))) in' small)))
        (λ big. big) (cases_lt (get_or (encode c) k 0) 128)) ∙ sym (low c l)

-- some byte passes such a test exactly when some character does
pub any-encodes : (p : ℕ → Bool) → IsOfAscii p → (cs : Text) → list_any p (encodes cs) ≡ list_any p cs
any-encodes p low [] = refl
any-encodes p low (c ∷ cs) = list_any-append p (encode c) (encodes cs) ∙ ap₂ (λ x y. x || y) (any-encode p low c) (any-encodes p low cs)

pub any-chars : (p : ℕ → Bool) → IsOfAscii p → (t : Text) → IsUtf8 t → list_any p (chars t) ≡ list_any p t
any-chars p low t utf8 = sym (any-encodes p low (chars t)) ∙ ap (list_any p) (encodes-chars t utf8)

slash-any : (t : Text) → has_no_slash t ≡ not (list_any (λ c. c == slash) t)
slash-any [] = refl
slash-any (x ∷ xs) = ap (λ b. not (x == slash) && b) (slash-any xs) ∙ de_morgan (x == slash) (list_any (λ c. c == slash) xs)
  where
    de_morgan : (a b : Bool) → (not a && not b) ≡ not (a || b)
    de_morgan true b = refl
    de_morgan false b = refl

slash-ascii : IsOfAscii (λ c. c == slash)
slash-ascii c h = ne_eqb c slash (λ e. omega arith)

pub no_slash-chars : (t : Text) → IsUtf8 t → has_no_slash (chars t) ≡ has_no_slash t
no_slash-chars t utf8 = slash-any (chars t) ∙ ap not (any-chars (λ c. c == slash) slash-ascii t utf8) ∙ sym (slash-any t)

pub no_slash-encode : (c : ℕ) → has_no_slash (encode c) ≡ not (c == slash)
no_slash-encode c = slash-any (encode c) ∙ ap not (any-encode (λ x. x == slash) slash-ascii c)

wildcard-ascii : IsOfAscii is_wildcard
wildcard-ascii c h = or_from _ _ (or_from _ _ (ne_eqb c question_mark (λ e. omega arith)) (ne_eqb c star
    (λ e. omega arith))) (ne_eqb c open_bracket (λ e. omega arith))

pub literal-chars : (t : Text) → IsUtf8 t → is_literal t ≡ true → list_any is_wildcard (chars t) ≡ false
literal-chars t utf8 h = any-chars is_wildcard wildcard-ascii t utf8 ∙ not-true (list_any is_wildcard t) h

pub chars_same : (t n : Text) → IsUtf8 t → IsUtf8 n → chars t ≡ chars n → t ≡ n
chars_same t n a b e = sym (encodes-chars t a) ∙ ap encodes e ∙ encodes-chars n b

-- `**`
two_stars-chars : chars (star ∷ star ∷ []) ≡ star ∷ star ∷ []
unfolding chars
two_stars-chars = refl

two_stars-utf8 : IsUtf8 (star ∷ star ∷ [])
unfolding encode
two_stars-utf8 = (star ∷ star ∷ [], (refl, refl))

pub recursive-chars : (t : Text) → IsUtf8 t → is_recursive (chars t) ≡ is_recursive t
recursive-chars t utf8 = by_test (is_recursive t) refl
  where
    by_test : (b : Bool) → is_recursive t ≡ b → is_recursive (chars t) ≡ is_recursive t
    by_test true e = ap is_recursive (ap chars (recursive_is t e) ∙ two_stars-chars) ∙ sym e
    by_test false e = false_from_ne_true (is_recursive (chars t)) (λ h. both_ways (is_recursive t) e
        ((bytes_eq-Decides t (star ∷ star ∷ [])).1
        (chars_same t (star ∷ star ∷ []) utf8 two_stars-utf8 (recursive_is (chars t) h ∙ sym two_stars-chars)))) ∙ sym e

-- a dot at the start
pub dot-encodes : (cs : Text) → begins_with dot (encodes cs) ≡ begins_with dot cs
dot-encodes [] = refl
dot-encodes (c ∷ cs) = ⊎_elim
    (λ l. ap (λ bs. begins_with dot (bs ++ encodes cs)) (encode_ascii c l))
    (λ l. false_from_ne_true (begins_with dot (encode c ++ encodes cs)) (λ h. omega (arith, wide l (eqb-true _ _ h)))
    ∙ sym (ne_eqb c dot (λ e. omega arith)))
    (cases_lt c 128)
  where
    wide : 128 ≤ c → get_or (encode c ++ encodes cs) 0 0 ≡ dot → ⊥
    wide l e = ⊎_elim
        (λ some. let same = char_from_byte (encode c ++ encodes cs) (encodes cs) c refl (omega arith) some in omega arith)
        (λ none. none_dot (encode c ++ encodes cs) none e)
        (cases_lt 0 (length (encode c ++ encodes cs)))
      where
        none_dot : (xs : Text) → length xs ≤ 0 → get_or xs 0 0 ≡ dot → ⊥
        none_dot [] z f = omega arith
        none_dot (x ∷ xs) z f = omega arith

pub dot-chars : (n : Text) → IsUtf8 n → begins_with dot (chars n) ≡ begins_with dot n
dot-chars n utf8 = sym (dot-encodes (chars n)) ∙ ap (begins_with dot) (encodes-chars n utf8)

-- parts joined by separators
pub chars-slash : (t : Text) → chars (slash ∷ t) ≡ slash ∷ chars t
unfolding chars
chars-slash [] = refl
chars-slash (x ∷ xs) = refl

abbrev pub AllUtf8 : List Text → Type 0
AllUtf8 [] = Unit {0}
AllUtf8 (t ∷ ts) = IsUtf8 t × AllUtf8 ts

pub chars-joined : (ts : List Text) → AllUtf8 ts → chars (join_with_byte slash ts) ≡ join_with_byte slash (map chars ts)
unfolding chars
chars-joined [] all = refl
chars-joined (t ∷ []) all = refl
chars-joined (t ∷ u ∷ us) (utf8, all) =
    chars-append t (slash ∷ join_with_byte slash (u ∷ us)) utf8 ∙ ap (λ cs. chars t ++ cs)
    (chars-slash (join_with_byte slash (u ∷ us)) ∙ ap (λ cs. slash ∷ cs) (chars-joined (u ∷ us) all))
