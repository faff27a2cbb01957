-- Texts that are the same, case-sensitively or not: by their bytes and by their characters.
use Rattle.std.proofs.Common.{◌≡◌, ◌↔◌, ℕ, zero, suc, ◌+◌, ◌/◌, ◌<◌, ◌≤◌, Bool, true, false, ◌&&◌, ◌==◌, List, [], ◌∷◌}
use Rattle.std.proofs.Common.{◌++◌, length, map, slice_index, IsTrue, refl, ap, sym, ◌∙◌, ⊎_elim, arith, rules}
use Rattle.std.specs.Char.{is_ascii, to_ascii_lowercase}
use Rattle.std.specs.Str.{chars, IsUtf8}
use Rattle.std.proofs.lemmas.Bool.{cond_both, or_cases, and_parts, and_from, eqb-true, cases_lt}
use Rattle.std.proofs.lemmas.List.{map-append}
use Rattle.std.proofs.lemmas.Str.{encode_ascii, encodes-chars, encodes_same}
use Rattle.std.proofs.lemmas.Str.Ascii.{lowercase_ascii, lowercase_is, lowercase-lowercase}
use lib.Dec.{ltb}
use lib.Utf8.{encode, encodes, next, scalar, scalars, low_scalar}
use Rattle.glob_text.specs.Text.{Text}
use Rattle.glob_search.specs.Private.Nodes.{folded}
use Rattle.glob_pattern.specs.Grammar.Brackets.{is_same}
use Rattle.glob_pattern.specs.Laws.{SameTexts}
use Rattle.glob_pattern.proofs.MatchingLemmas.PlainPatterns.{SameTexts-with_case, SameTexts-itself}

-- no byte is a letter of ASCII
abbrev AreHigh : List ℕ → Type 0
AreHigh [] = Unit {0}
AreHigh (b ∷ bs) = (90 < b) × AreHigh bs

high_stays : (bs : List ℕ) → AreHigh bs → map to_ascii_lowercase bs ≡ bs
high_stays [] h = refl
high_stays (b ∷ bs) (h, hs) = ap (λ x. x ∷ map to_ascii_lowercase bs) ((lowercase_is b).2 h) ∙ ap (λ xs. b ∷ xs) (high_stays bs hs)

-- no byte of a character beyond ASCII is a letter of ASCII
encode_high : (c : ℕ) → 128 ≤ c → AreHigh (encode c)
unfolding encode
encode_high c high =
    let one : AreHigh (c ∷ []) = (omega (arith, high), tt) in
    let two : AreHigh ((192 + c / 64) ∷ next c ∷ []) = (omega arith, (omega arith, tt)) in
    let three : AreHigh ((224 + c / 4096) ∷ next (c / 64) ∷ next c ∷ []) = (omega arith, (omega arith, (omega arith, tt))) in
    let four : AreHigh ((240 + c / 262144) ∷ next (c / 4096) ∷ next (c / 64) ∷ next c ∷ []) =
    (omega arith, (omega arith, (omega arith, (omega arith, tt)))) in
    cond_both (ltb c 128) _ _ AreHigh (λ _. one) (λ _. cond_both (ltb c 2048) _ _ AreHigh (λ _. two) (λ _. cond_both
    (ltb c 65536) _ _ AreHigh (λ _. three) (λ _. four)))

-- lowering the bytes lowers the characters
encode_lower : (c : ℕ) → map to_ascii_lowercase (encode c) ≡ encode (to_ascii_lowercase c)
encode_lower c =
    ⊎_elim (λ low. ap (map to_ascii_lowercase) (encode_ascii c low) ∙ sym (encode_ascii (to_ascii_lowercase c) (lowercase_ascii c low)))
    (λ high. high_stays (encode c) (encode_high c high) ∙ ap encode (sym ((lowercase_is c).2 (omega (arith, high)))))
    (cases_lt c 128)

encodes_lower : (cs : Text) → map to_ascii_lowercase (encodes cs) ≡ encodes (map to_ascii_lowercase cs)
encodes_lower [] = refl
encodes_lower (c ∷ cs) =
    map-append to_ascii_lowercase (encode c) (encodes cs)
    ∙ ap (λ bs. bs ++ map to_ascii_lowercase (encodes cs)) (encode_lower c)
    ∙ ap (λ bs. encode (to_ascii_lowercase c) ++ bs) (encodes_lower cs)

bytes_lower : (text : Text) → IsUtf8 text → map to_ascii_lowercase text ≡ encodes (map to_ascii_lowercase (chars text))
bytes_lower text utf8 = ap (map to_ascii_lowercase) (sym (encodes-chars text utf8)) ∙ encodes_lower (chars text)

-- a text stays UTF-8
lower-scalar : (c : ℕ) → scalar c ≡ true → scalar (to_ascii_lowercase c) ≡ true
lower-scalar c e = ⊎_elim
    (λ low. let k = lowercase_ascii c low in low_scalar (to_ascii_lowercase c) (omega arith))
    (λ high. ap scalar ((lowercase_is c).2 (omega (arith, high))) ∙ e) (cases_lt c 128)

lower-scalars : (cs : Text) → scalars cs ≡ true → scalars (map to_ascii_lowercase cs) ≡ true
lower-scalars [] e = refl
lower-scalars (c ∷ cs) e =
    let both = and_parts (scalar c) (scalars cs) e in
    and_from (scalar (to_ascii_lowercase c)) (scalars (map to_ascii_lowercase cs)) (lower-scalar c both.0) (lower-scalars cs both.1)

pub lowered : (text : Text) → IsUtf8 text → IsUtf8 (map to_ascii_lowercase text)
lowered text u = (map to_ascii_lowercase u.0, (lower-scalars u.0 u.1.0, sym (encodes_lower u.0) ∙ ap (map to_ascii_lowercase) u.1.1))

-- characters are the same case-insensitively exactly when they are equal in lower case
small_from_same : (c x : ℕ) → IsTrue (is_same false c x) → to_ascii_lowercase c ≡ to_ascii_lowercase x
small_from_same c x h =
    ⊎_elim (λ e. ap to_ascii_lowercase (eqb-true c x e))
    (λ both. eqb-true _ _ (and_parts (is_ascii c && is_ascii x) (to_ascii_lowercase c == to_ascii_lowercase x) both).1)
    (or_cases (c == x) (is_ascii c && is_ascii x && (to_ascii_lowercase c == to_ascii_lowercase x)) h)

same_from_small : (c x : ℕ) → to_ascii_lowercase c ≡ to_ascii_lowercase x → IsTrue (is_same false c x)
same_from_small c x e = grind (arith, rules, e)

-- the same for texts
small_from_SameTexts : (xs ys : Text) → SameTexts false xs ys → map to_ascii_lowercase xs ≡ map to_ascii_lowercase ys
small_from_SameTexts [] [] h = refl
small_from_SameTexts [] (y ∷ ys) h = absurd (omega (arith, h.0))
small_from_SameTexts (x ∷ xs) [] h = absurd (omega (arith, h.0))
small_from_SameTexts (x ∷ xs) (y ∷ ys) (l, at) =
    ap (λ b. b ∷ map to_ascii_lowercase xs) (small_from_same x y (at 0 (omega arith)))
    ∙ ap (λ bs. to_ascii_lowercase y ∷ bs) (small_from_SameTexts xs ys (omega (arith, l), λ k b. at (suc k) (omega (arith, b))))

SameTexts-from_small : (xs ys : Text) → map to_ascii_lowercase xs ≡ map to_ascii_lowercase ys → SameTexts false xs ys
SameTexts-from_small [] [] e = (refl, λ k b. absurd (omega (arith, b)))
SameTexts-from_small [] (y ∷ ys) e = absurd (cc)
SameTexts-from_small (x ∷ xs) [] e = absurd (cc)
SameTexts-from_small (x ∷ xs) (y ∷ ys) e =
    let first : to_ascii_lowercase x ≡ to_ascii_lowercase y = cc in
    let rest : SameTexts false xs ys = SameTexts-from_small xs ys (cc) in
    (ap suc rest.0, at (same_from_small x y first) rest.1)
  where
    at : IsTrue (is_same false x y) → ((k : ℕ) → k < length ys → IsTrue (is_same false (slice_index xs k) (slice_index ys k)))
        → (k : ℕ) → k < length (y ∷ ys) → IsTrue (is_same false (slice_index (x ∷ xs) k) (slice_index (y ∷ ys) k))
    at first later zero b = first
    at first later (suc k) b = later k (omega (arith, b))

-- once folded, texts are equal
pub SameTexts-folded : (case : Bool) (xs ys : Text) → IsUtf8 xs → IsUtf8 ys → SameTexts case (chars xs) (chars ys)
    → folded case xs ≡ folded case ys
SameTexts-folded true xs ys u v s = sym (encodes-chars xs u) ∙ ap encodes (SameTexts-with_case (chars xs) (chars ys) s) ∙ encodes-chars ys v
SameTexts-folded false xs ys u v s = bytes_lower xs u ∙ ap encodes (small_from_SameTexts (chars xs) (chars ys) s) ∙ sym (bytes_lower ys v)

pub folded-SameTexts : (case : Bool) (xs ys : Text) → IsUtf8 xs → IsUtf8 ys → folded case xs ≡ folded case ys
    → SameTexts case (chars xs) (chars ys)
folded-SameTexts true xs ys u v e = SameTexts-itself true (chars xs) (chars ys) (ap chars e)
folded-SameTexts false xs ys u v e = SameTexts-from_small (chars xs) (chars ys) (encodes_same _ _
    (sym (bytes_lower xs u) ∙ e ∙ bytes_lower ys v))

-- the characters of a text in lower case
pub chars-lower : (text : Text) → IsUtf8 text → chars (map to_ascii_lowercase text) ≡ map to_ascii_lowercase (chars text)
chars-lower text utf8 = encodes_same _ _ (encodes-chars (map to_ascii_lowercase text) (lowered text utf8) ∙ bytes_lower text utf8)

lower-twice : (cs : Text) → map to_ascii_lowercase (map to_ascii_lowercase cs) ≡ map to_ascii_lowercase cs
lower-twice [] = refl
lower-twice (c ∷ cs) = λ i. lowercase-lowercase c i ∷ lower-twice cs i

-- a text is the same as another exactly when it is the same as the other in lower case
pub SameTexts-lower : (cs text : Text) → IsUtf8 text → SameTexts false cs (chars text) ↔ SameTexts false cs
    (chars (map to_ascii_lowercase text))
SameTexts-lower cs text utf8 =
    let same : map to_ascii_lowercase (chars (map to_ascii_lowercase text)) ≡ map to_ascii_lowercase (chars text) =
    ap (map to_ascii_lowercase) (chars-lower text utf8) ∙ lower-twice (chars text) in (
      (λ s. SameTexts-from_small cs _ (small_from_SameTexts cs (chars text) s ∙ sym same)),
      (λ s. SameTexts-from_small cs _ (small_from_SameTexts cs _ s ∙ same)),
    )

pub lower-lower : (text : Text) → map to_ascii_lowercase (map to_ascii_lowercase text) ≡ map to_ascii_lowercase text
lower-lower = lower-twice
