-- Texts that are equal, case-sensitively or not, by bytes and by characters.
use Rattle.std.proofs.Common.{◌≡◌, ℕ, zero, suc, ◌+◌, ◌/◌, ◌<◌, ◌≤◌, Bool, true, false, ◌&&◌, ◌==◌, List, [], ◌∷◌, ◌++◌}
use Rattle.std.proofs.Common.{length, map, slice_index, IsTrue, refl, ap, sym, ◌∙◌, ⊎_elim, arith, rules}
use Rattle.std.specs.Bool.{Decides}
use Rattle.std.specs.Char.{is_ascii, to_ascii_lowercase}
use Rattle.std.specs.Str.{chars, IsUtf8}
use Rattle.std.proofs.lemmas.Bool.{cond_both, or_cases, and_parts, eqb-true, cases_lt}
use Rattle.std.proofs.lemmas.List.{map-append}
use Rattle.std.proofs.lemmas.Slice.Eq.{bytes_eq-Decides}
use Rattle.std.proofs.lemmas.Str.{encode_ascii, encodes-chars, encodes_same}
use Rattle.std.proofs.lemmas.Str.Ascii.{lowercase_ascii, lowercase_is}
use lib.Dec.{ltb}
use lib.Utf8.{encode, encodes, next}
use Rattle.glob_text.specs.Text.{Text}
use Rattle.glob_pattern.specs.Grammar.Brackets.{is_same}
use Rattle.glob_pattern.specs.Laws.{SameTexts}
use Rattle.glob_pattern.proofs.MatchingLemmas.PlainPatterns.{SameTexts-with_case, SameTexts-itself}
use Rattle.glob_walk.specs.Private.Forms.{same_texts}

-- no byte is an ASCII letter
abbrev AreHigh : List ℕ → Type 0
AreHigh [] = Unit {0}
AreHigh (b ∷ bs) = (90 < b) × AreHigh bs

high_stays : (bs : List ℕ) → AreHigh bs → map to_ascii_lowercase bs ≡ bs
high_stays [] h = refl
high_stays (b ∷ bs) (h, hs) = ap (λ x. x ∷ map to_ascii_lowercase bs) ((lowercase_is b).2 h) ∙ ap (λ xs. b ∷ xs) (high_stays bs hs)

-- no byte of a non-ASCII character is an ASCII letter
encode_high : (c : ℕ) → 128 ≤ c → AreHigh (encode c)
unfolding encode
encode_high c high =
    let one : AreHigh (c ∷ []) = (omega (arith, high), tt) in
    let two : AreHigh ((192 + c / 64) ∷ next c ∷ []) = (omega arith, (omega arith, tt)) in
    let three : AreHigh ((224 + c / 4096) ∷ next (c / 64) ∷ next c ∷ []) = (omega arith, (omega arith, (omega arith, tt))) in
    let four : AreHigh ((240 + c / 262144) ∷ next (c / 4096) ∷ next (c / 64) ∷ next c ∷ []) =
    (omega arith, (omega arith, (omega arith, (omega arith, tt)))) in
    cond_both (ltb c 128) _ _ AreHigh (λ _. one) (λ _. cond_both (ltb c 2048) _ _ AreHigh (λ _. two) (λ _. cond_both
    (ltb c 65536) _ _ AreHigh (λ _. three) (λ _. four)))

-- lowering the bytes lowers the characters
encode_lower : (c : ℕ) → map to_ascii_lowercase (encode c) ≡ encode (to_ascii_lowercase c)
encode_lower c =
    ⊎_elim (λ low. ap (map to_ascii_lowercase) (encode_ascii c low) ∙ sym (encode_ascii (to_ascii_lowercase c) (lowercase_ascii c low)))
    (λ high. high_stays (encode c) (encode_high c high) ∙ ap encode (sym ((lowercase_is c).2 (omega (arith, high)))))
    (cases_lt c 128)

encodes_lower : (cs : Text) → map to_ascii_lowercase (encodes cs) ≡ encodes (map to_ascii_lowercase cs)
encodes_lower [] = refl
encodes_lower (c ∷ cs) =
    map-append to_ascii_lowercase (encode c) (encodes cs)
    ∙ ap (λ bs. bs ++ map to_ascii_lowercase (encodes cs)) (encode_lower c)
    ∙ ap (λ bs. encode (to_ascii_lowercase c) ++ bs) (encodes_lower cs)

bytes_lower : (text : Text) → IsUtf8 text → map to_ascii_lowercase text ≡ encodes (map to_ascii_lowercase (chars text))
bytes_lower text utf8 = ap (map to_ascii_lowercase) (sym (encodes-chars text utf8)) ∙ encodes_lower (chars text)

-- characters are the same case-insensitively exactly when they are equal in lower case
small_from_same : (c x : ℕ) → IsTrue (is_same false c x) → to_ascii_lowercase c ≡ to_ascii_lowercase x
small_from_same c x h =
    ⊎_elim (λ e. ap to_ascii_lowercase (eqb-true c x e))
    (λ both. eqb-true _ _ (and_parts (is_ascii c && is_ascii x) (to_ascii_lowercase c == to_ascii_lowercase x) both).1)
    (or_cases (c == x) (is_ascii c && is_ascii x && (to_ascii_lowercase c == to_ascii_lowercase x)) h)

same_from_small : (c x : ℕ) → to_ascii_lowercase c ≡ to_ascii_lowercase x → IsTrue (is_same false c x)
same_from_small c x e = grind (arith, rules, e)

-- the same for texts
small_from_SameTexts : (xs ys : Text) → SameTexts false xs ys → map to_ascii_lowercase xs ≡ map to_ascii_lowercase ys
small_from_SameTexts [] [] h = refl
small_from_SameTexts [] (y ∷ ys) h = absurd (omega (arith, h.0))
small_from_SameTexts (x ∷ xs) [] h = absurd (omega (arith, h.0))
small_from_SameTexts (x ∷ xs) (y ∷ ys) (l, at) =
    ap (λ b. b ∷ map to_ascii_lowercase xs) (small_from_same x y (at 0 (omega arith)))
    ∙ ap (λ bs. to_ascii_lowercase y ∷ bs) (small_from_SameTexts xs ys (omega (arith, l), λ k b. at (suc k) (omega (arith, b))))

SameTexts-from_small : (xs ys : Text) → map to_ascii_lowercase xs ≡ map to_ascii_lowercase ys → SameTexts false xs ys
SameTexts-from_small [] [] e = (refl, λ k b. absurd (omega (arith, b)))
SameTexts-from_small [] (y ∷ ys) e = absurd (cc)
SameTexts-from_small (x ∷ xs) [] e = absurd (cc)
SameTexts-from_small (x ∷ xs) (y ∷ ys) e =
    let first : to_ascii_lowercase x ≡ to_ascii_lowercase y = cc in
    let rest : SameTexts false xs ys = SameTexts-from_small xs ys (cc) in
    (ap suc rest.0, at (same_from_small x y first) rest.1)
  where
    at : IsTrue (is_same false x y) → ((k : ℕ) → k < length ys → IsTrue (is_same false (slice_index xs k) (slice_index ys k)))
        → (k : ℕ) → k < length (y ∷ ys) → IsTrue (is_same false (slice_index (x ∷ xs) k) (slice_index (y ∷ ys) k))
    at first later zero b = first
    at first later (suc k) b = later k (omega (arith, b))

-- comparing bytes decides whether the characters are the same
pub Decides-same_texts : (case : Bool) (xs ys : Text) → IsUtf8 xs → IsUtf8 ys → Decides (same_texts case xs ys)
    (SameTexts case (chars xs) (chars ys))
Decides-same_texts true xs ys u v = (
  (λ h. SameTexts-itself true (chars xs) (chars ys) (ap chars ((bytes_eq-Decides xs ys).0 h))),
  (λ s. (bytes_eq-Decides xs ys).1 (sym (encodes-chars xs u) ∙ ap encodes (SameTexts-with_case (chars xs) (chars ys) s)
      ∙ encodes-chars ys v)),
)
Decides-same_texts false xs ys u v =
    let decides = bytes_eq-Decides (map to_ascii_lowercase xs) (map to_ascii_lowercase ys) in (
      (λ h. SameTexts-from_small (chars xs) (chars ys) (encodes_same _ _ (sym (bytes_lower xs u) ∙ decides.0 h ∙ bytes_lower ys v))),
      (λ s. decides.1 (bytes_lower xs u ∙ ap encodes (small_from_SameTexts (chars xs) (chars ys) s) ∙ sym (bytes_lower ys v))),
    )
