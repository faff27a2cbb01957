-- Literals at the ends of a text, compared as bytes and as characters.
use Rattle.std.proofs.Common.{◌≡◌, ℕ, suc, ◌+◌, ◌-◌, ◌<◌, ◌≤◌, Bool, true, false, not, ◌&&◌, ◌==◌, List, [], ◌∷◌, ◌++◌}
use Rattle.std.proofs.Common.{length, map, take, drop, get_or, IsTrue, refl, sym, ap, ap₂, subst, ◌∙◌, ⊎_elim, arith}
use Rattle.std.proofs.Common.{chars, append_assoc, append-nil}
use Rattle.std.proofs.Math.Seq.{drop-append_seam, take-append_seam}
use Rattle.std.proofs.lemmas.Bool.{or_left, or_right, or_cases, and_from, and_parts, lt-ltb, eq-eqb, eqb-true, ne_eqb}
use Rattle.std.proofs.lemmas.Bool.{cases_Bool, cases_lt, false≢true}
use Rattle.std.proofs.lemmas.List.{drop_more, get_or_at, get_or-map, length-append, length-map, map-append}
use Rattle.std.proofs.lemmas.List.{take-append-drop, take-map, drop-map}
use Rattle.std.proofs.lemmas.Str.{IsUtf8-take, IsUtf8-drop, IsCharBoundary-before_ascii, IsCharBoundary-after_ascii}
use Rattle.std.proofs.lemmas.Str.{IsCharBoundary-from_take, IsCharBoundary-from_drop, chars-append, encode_ascii}
use Rattle.std.proofs.lemmas.Str.{encodes-append, encodes-chars, encodes_same, scalars-chars}
use Rattle.std.specs.Char.{is_ascii, to_ascii_lowercase}
use Rattle.std.specs.Str.{IsUtf8, IsCharBoundary, encode_utf8_all}
use lib.Utf8.{encode, scalar, scalars, low_scalar}
use Rattle.glob_text.specs.Characters.{slash}
use Rattle.glob_text.specs.Text.{Text}
use Rattle.glob_pattern.specs.Grammar.Brackets.{is_same}
use Rattle.glob_pattern.specs.Laws.{SameTexts}
use Rattle.glob_pattern.specs.Private.Ends.{SameBytes, HasEnds}
use Rattle.glob_pattern.specs.Private.TextTable.{opens_within}
use Rattle.glob_pattern.proofs.Places.{at_last}
use Rattle.glob_pattern.proofs.MatchingLemmas.Case.{lower_cases}
use Rattle.glob_pattern.proofs.MatchingLemmas.Needles.{small-SameTexts}

-- lower case keeps bytes beyond ASCII
kept : (b : ℕ) → 128 ≤ b → to_ascii_lowercase b ≡ b
kept b high = ⊎_elim (λ (from, to, e). absurd (omega arith)) (λ (apart, e). e) (lower_cases b)

-- lower case keeps ASCII bytes ASCII
low : (b : ℕ) → b < 128 → to_ascii_lowercase b < 128
low b lt = ⊎_elim (λ (from, to, e). omega (arith, e)) (λ (apart, e). omega (arith, e)) (lower_cases b)

-- an element of a list of one is that one
one-of : (front back : Text) (c b : ℕ) → c ∷ [] ≡ front ++ b ∷ back → c ≡ b
one-of [] back c b e = cc
one-of (x ∷ front) back c b e = absurd (omega (arith, ap length e, length-append front (b ∷ back)))

-- a character beyond ASCII has bytes beyond ASCII
high-bytes : (c i : ℕ) → scalar c ≡ true → 128 ≤ c → i < length (encode c) → 128 ≤ get_or (encode c) i 0
high-bytes c i single high lt =
    ⊎_elim
    (λ less.
    let u : IsUtf8 (encode c) = (c ∷ [], (and_from (scalar c) true single refl, append-nil (encode c))) in
    let front = take i (encode c) in
    let back = drop (i + 1) (encode c) in
    let b = get_or (encode c) i 0 in
    let before = IsUtf8-take (encode c) i u (IsCharBoundary-before_ascii (encode c) i lt less) in
    let after = IsUtf8-drop (encode c) (i + 1) u (IsCharBoundary-after_ascii (encode c) i u lt less) in
    let split : encode c ≡ front ++ b ∷ back = sym (take-append-drop i (encode c)) ∙ ap (λ xs. front ++ xs) (drop_more (encode c) i 0 lt) in
    let spelled : b ∷ back ≡ encode_utf8_all (b ∷ chars back) = ap₂ (λ xs ys. xs ++ ys) (sym (encode_ascii b less))
    (sym (encodes-chars back after)) in
    let same : c ∷ [] ≡ chars front ++ b ∷ chars back =
    encodes_same (c ∷ []) (chars front ++ b ∷ chars back)
    (append-nil (encode c) ∙ split ∙ ap₂ (λ xs ys. xs ++ ys) (sym (encodes-chars front before)) spelled ∙ sym
    (encodes-append (chars front) (b ∷ chars back))) in
    absurd (omega (arith, high, less, one-of (chars front) (chars back) c b same)))
    (λ more. more)
    (cases_lt (get_or (encode c) i 0) 128)

-- lower case keeps such bytes
kept-all : (bytes : List ℕ) → ((i : ℕ) → i < length bytes → 128 ≤ get_or bytes i 0) → map to_ascii_lowercase bytes ≡ bytes
kept-all [] high = refl
kept-all (b ∷ bytes) high = ap₂ (λ x xs. x ∷ xs) (kept b (high 0 (omega arith))) (kept-all bytes (λ i lt. high (suc i) (omega arith)))

-- so the bytes of a character in lower case are its bytes in lower case
lower-encode : (c : ℕ) → scalar c ≡ true → (scalar (to_ascii_lowercase c) ≡ true) × (map to_ascii_lowercase
    (encode c) ≡ encode (to_ascii_lowercase c))
lower-encode c single =
    ⊎_elim
    (λ lt. (
      low_scalar (to_ascii_lowercase c) (omega (arith, low c lt)),
      ap (map to_ascii_lowercase) (encode_ascii c lt) ∙ sym (encode_ascii (to_ascii_lowercase c) (low c lt)),
    ))
    (λ high. (ap scalar (kept c high) ∙ single, kept-all (encode c) (λ i. high-bytes c i single high) ∙ ap encode (sym (kept c high))))
    (cases_lt c 128)

lower-encodes : (cs : Text) → scalars cs ≡ true → (scalars (map to_ascii_lowercase cs) ≡ true) ×
    (map to_ascii_lowercase (encode_utf8_all cs) ≡ encode_utf8_all (map to_ascii_lowercase cs))
lower-encodes [] all = (refl, refl)
lower-encodes (c ∷ cs) all =
    let (first, others) = and_parts (scalar c) (scalars cs) all in
    let (single, same) = lower-encode c first in
    let (rest, spelled) = lower-encodes cs others in (
      and_from (scalar (to_ascii_lowercase c)) (scalars (map to_ascii_lowercase cs)) single rest,
      map-append to_ascii_lowercase (encode c) (encode_utf8_all cs) ∙ ap₂ (λ a b. a ++ b) same spelled,
    )

-- a text in lower case
lowered : (bytes : List ℕ) → IsUtf8 bytes → IsUtf8 (map to_ascii_lowercase bytes)
lowered bytes u =
    let (all, spelled) = lower-encodes (chars bytes) (scalars-chars bytes u) in
    (map to_ascii_lowercase (chars bytes), (all, sym spelled ∙ ap (map to_ascii_lowercase) (encodes-chars bytes u)))

lower-chars : (bytes other : List ℕ) → IsUtf8 bytes → IsUtf8 other → map to_ascii_lowercase bytes ≡ map
    to_ascii_lowercase other → map to_ascii_lowercase (chars bytes) ≡ map to_ascii_lowercase (chars other)
lower-chars bytes other u v e = encodes_same _ _ (spelled bytes u ∙ e ∙ sym (spelled other v))
  where
    spelled : (bs : List ℕ) → IsUtf8 bs → encode_utf8_all (map to_ascii_lowercase (chars bs)) ≡ map to_ascii_lowercase bs
    spelled bs w = sym (lower-encodes (chars bs) (scalars-chars bs w)).1 ∙ ap (map to_ascii_lowercase) (encodes-chars bs w)

-- characters with the same lower case are the same case-insensitively
same-lower : (c x : ℕ) → to_ascii_lowercase c ≡ to_ascii_lowercase x → IsTrue (is_same false c x)
same-lower c x e =
    ⊎_elim
    (λ lt. ⊎_elim
    (λ less. or_right (c == x) _
    (and_from (not false && is_ascii c && is_ascii x) (to_ascii_lowercase c == to_ascii_lowercase x)
    (and_from (not false && is_ascii c) (is_ascii x) (and_from (not false) (is_ascii c) refl (lt-ltb c 128 lt))
    (lt-ltb x 128 less)) (eq-eqb _ _ e)))
    (λ high. absurd (omega (arith, low c lt, kept x high, e)))
    (cases_lt x 128))
    (λ high. ⊎_elim
    (λ less. absurd (omega (arith, low x less, kept c high, e)))
    (λ more. or_left (c == x) _ (eq-eqb c x (sym (kept c high) ∙ e ∙ kept x more)))
    (cases_lt x 128))
    (cases_lt c 128)

SameTexts-lower : (xs ys : Text) → map to_ascii_lowercase xs ≡ map to_ascii_lowercase ys → SameTexts false xs ys
SameTexts-lower xs ys e =
    let long : length xs ≡ length ys = sym (length-map xs to_ascii_lowercase) ∙ ap length e ∙ length-map ys to_ascii_lowercase in (
      long,
      λ k l. same-lower (get_or xs k 0) (get_or ys k 0) (sym (get_or-map to_ascii_lowercase xs k 0 0
          (omega (arith, l, long))) ∙ ap (λ zs. get_or zs k 0) e ∙ get_or-map to_ascii_lowercase ys k 0 0 l),
    )

-- the same bytes are the same in lower case
lower-SameBytes : (case : Bool) (bytes other : List ℕ) → SameBytes case bytes other → map to_ascii_lowercase bytes ≡
    map to_ascii_lowercase other
lower-SameBytes true bytes other same = ap (map to_ascii_lowercase) same
lower-SameBytes false bytes other same = same

-- the same bytes are the same characters
pub SameTexts-from_bytes : (case : Bool) (bytes other : List ℕ) → IsUtf8 bytes → IsUtf8 other → SameBytes case bytes
    other → SameTexts case (chars bytes) (chars other)
SameTexts-from_bytes true bytes other u v same = (
  ap (λ bs. length (chars bs)) same,
  λ k l. or_left
      (get_or (chars bytes) k 0 == get_or (chars other) k 0) _ (eq-eqb _ _ (ap (λ bs. get_or (chars bs) k 0) same)),
)
SameTexts-from_bytes false bytes other u v same = SameTexts-lower _ _ (lower-chars bytes other u v same)

-- case-sensitively, no other character is the same
exact : (c x : ℕ) → IsTrue (is_same true c x) → c ≡ x
exact c x same =
    ⊎_elim (eqb-true c x)
    (λ both. absurd (false≢true (and_parts (not true) (is_ascii c) (and_parts (not true && is_ascii c) (is_ascii x)
    (and_parts (not true && is_ascii c && is_ascii x) (to_ascii_lowercase c == to_ascii_lowercase x) both).0).0).0))
    (or_cases (c == x) (not true && is_ascii c && is_ascii x && to_ascii_lowercase c == to_ascii_lowercase x) same)

SameTexts-exact : (xs ys : Text) → SameTexts true xs ys → xs ≡ ys
SameTexts-exact [] [] same = refl
SameTexts-exact [] (y ∷ ys) same = absurd (omega (arith, same.0))
SameTexts-exact (x ∷ xs) [] same = absurd (omega (arith, same.0))
SameTexts-exact (x ∷ xs) (y ∷ ys) (lengths, each) = ap₂ (λ a b. a ∷ b) (exact x y (each 0 (omega arith)))
    (SameTexts-exact xs ys (omega (arith, lengths), λ k l. each (suc k) (omega arith)))

-- the same characters are the same bytes
SameBytes-from_texts : (case : Bool) (xs ys : Text) → SameTexts case xs ys → SameBytes case (encode_utf8_all xs) (encode_utf8_all ys)
SameBytes-from_texts true xs ys same = ap encode_utf8_all (SameTexts-exact xs ys same)
SameBytes-from_texts false xs ys same = small-SameTexts false xs ys same

pub length-SameTexts : (case : Bool) (xs ys : Text) → SameTexts case xs ys → length (encode_utf8_all xs) ≡ length (encode_utf8_all ys)
length-SameTexts case xs ys same = sym (length-map _ to_ascii_lowercase) ∙ ap length (small-SameTexts case xs ys same)
    ∙ length-map _ to_ascii_lowercase

-- a place at which bytes in lower case may be cut
boundary-lower : (bytes : List ℕ) (i : ℕ) → IsCharBoundary (map to_ascii_lowercase bytes) i → IsCharBoundary bytes i
boundary-lower bytes i (le, lead) =
    let long = length-map bytes to_ascii_lowercase in (
      omega (arith, le, long),
      λ lt high.
          let same : get_or (map to_ascii_lowercase bytes) i 0 ≡ get_or bytes i 0 = get_or-map to_ascii_lowercase bytes
          i 0 0 lt ∙ kept _ high in
          omega (arith, same, lead (omega (arith, lt, long)) (omega (arith, same, high))),
    )

-- a text that begins with literals may be cut after them, and one that ends with them before them
module _ (case : Bool) (bytes literals : List ℕ) (u : IsUtf8 bytes) (v : IsUtf8 literals) (within : length literals ≤ length bytes) where
  pub boundary-first : SameBytes case (take (length literals) bytes) literals → IsCharBoundary bytes (length literals)
  boundary-first same =
      let lower : take (length literals) (map to_ascii_lowercase bytes) ≡ map to_ascii_lowercase literals =
      take-map to_ascii_lowercase (length literals) bytes ∙ lower-SameBytes case _ literals same in
      boundary-lower bytes (length literals)
      (IsCharBoundary-from_take (map to_ascii_lowercase bytes) (length literals) (lowered bytes u)
      (omega (arith, within, length-map bytes to_ascii_lowercase)) (subst IsUtf8 (sym lower) (lowered literals v)))

  pub boundary-last : SameBytes case (drop (length bytes - length literals) bytes) literals → IsCharBoundary bytes
      (length bytes - length literals)
  boundary-last same =
      let lower : drop (length bytes - length literals) (map to_ascii_lowercase bytes) ≡ map to_ascii_lowercase literals =
      drop-map to_ascii_lowercase (length bytes - length literals) bytes ∙ lower-SameBytes case _ literals same in
      boundary-lower bytes (length bytes - length literals)
      (IsCharBoundary-from_drop (map to_ascii_lowercase bytes) (length bytes - length literals)
      (omega (arith, within, length-map bytes to_ascii_lowercase)) (subst IsUtf8 (sym lower) (lowered literals v)))

-- if a text may be cut at a place, its characters are those of both parts
pub chars-cut : (bytes : List ℕ) (i : ℕ) → IsUtf8 bytes → IsCharBoundary bytes i → chars bytes ≡ chars (take i bytes)
    ++ chars (drop i bytes)
chars-cut bytes i u at = ap chars (sym (take-append-drop i bytes)) ∙ chars-append (take i bytes) (drop i bytes) (IsUtf8-take bytes i u at)

-- a text whose first and last characters are the same as the literals has them as bytes
pub HasEnds-from_texts : (case : Bool) (first last : Text) (bytes : List ℕ) (here between there : Text) → IsUtf8 bytes
    → chars bytes ≡ here ++ (between ++ there)
    → SameTexts case here first → SameTexts case there last → HasEnds case (encode_utf8_all first) (encode_utf8_all last) bytes
HasEnds-from_texts case first last bytes here between there u split begins ends =
    let a = encode_utf8_all here in
    let m = encode_utf8_all between in
    let z = encode_utf8_all there in
    let spelled : bytes ≡ a ++ (m ++ z) =
    sym (encodes-chars bytes u) ∙ ap encode_utf8_all split ∙ encodes-append here (between ++ there) ∙ ap
    (λ xs. encode_utf8_all here ++ xs) (encodes-append between there) in
    let one = length-SameTexts case here first begins in
    let two = length-SameTexts case there last ends in
    let long : length bytes ≡ length a + (length m + length z) = ap length spelled ∙ length-append a (m ++ z) ∙ ap
    (λ n. length a + n) (length-append m z) in
    let place : length bytes - length (encode_utf8_all last) ≡ length (a ++ m) = omega (arith, long, two, length-append a m) in
    record {
      within = omega (arith, long, one, two);
      first = subst (λ xs. SameBytes case xs (encode_utf8_all first)) (sym (ap₂ take (sym one) spelled
          ∙ take-append_seam a (m ++ z))) (SameBytes-from_texts case here first begins);
      last = subst (λ xs. SameBytes case xs (encode_utf8_all last))
          (sym (ap₂ drop place (spelled ∙ sym (append_assoc a m z)) ∙ drop-append_seam (a ++ m) z))
          (SameBytes-from_texts case there last ends);
    }

-- the last character before the end of a text
pub chars_past_last : (bytes rest : List ℕ) (c : ℕ) → IsUtf8 bytes → IsUtf8 rest → bytes ≡ rest ++ encode c
    → chars bytes ≡ chars rest ++ c ∷ []
chars_past_last bytes rest c u v split =
    encodes_same (chars bytes) (chars rest ++ c ∷ [])
    (encodes-chars bytes u ∙ split ∙ ap₂ (λ xs ys. xs ++ ys) (sym (encodes-chars rest v)) (sym (append-nil (encode c)))
    ∙ sym (encodes-append (chars rest) (c ∷ [])))

-- a component begins after the last character if that is `/`
opens-at_last : (opening : Bool) (cs : Text) (c : ℕ) → opens_within opening (cs ++ c ∷ []) (length (cs ++ c ∷ [])) ≡ (c == slash)
opens-at_last opening cs c =
    let long : suc (length cs) ≡ length (cs ++ c ∷ []) = omega (arith, length-append cs (c ∷ [])) in
    subst (λ n. opens_within opening (cs ++ c ∷ []) n ≡ (c == slash)) long (ap (λ d. d == slash) (get_or_at cs c [] 0 (length cs) refl))

-- the same, by the last byte
pub opens-at_last_byte : (opening : Bool) (front : List ℕ) (last : ℕ) → IsUtf8 (front ++ last ∷ []) → opens_within
    opening (chars (front ++ last ∷ [])) (length (chars (front ++ last ∷ []))) ≡ (last == slash)
opens-at_last_byte opening front last u =
    ⊎_elim
    (λ low.
    let at = IsCharBoundary-before_ascii bytes (length front) (omega (arith, length-append front (last ∷ [])))
    (omega (arith, low, get_or_at front last [] 0 (length front) refl)) in
    let v = subst IsUtf8 (take-append_seam front (last ∷ [])) (IsUtf8-take bytes (length front) u at) in
    let text = chars_past_last bytes front last u v (ap (λ xs. front ++ xs) (sym (encode_ascii last low))) in
    subst (λ cs. opens_within opening cs (length cs) ≡ (last == slash)) (sym text) (opens-at_last opening (chars front) last))
    (λ high. ⊎_elim
    (λ none. absurd (omega (arith, ap length (sym (encodes-chars bytes u) ∙ ap encode_utf8_all none), length-append front (last ∷ []))))
    (λ (ys, c, e). ⊎_elim
    (λ is. absurd (omega (arith, high, last-slash ys c e is)))
    (λ other. subst (λ cs. opens_within opening cs (length cs) ≡ (last == slash)) (sym e) (opens-at_last opening ys c
    ∙ other ∙ sym (ne_eqb last slash (λ is. omega (arith, high, is)))))
    (cases_Bool (c == slash)))
    (at_last (chars bytes)))
    (cases_lt last 128)
  where
    bytes : List ℕ
    bytes = front ++ last ∷ []

    -- a last character `/` is the last byte
    last-slash : (ys : Text) (c : ℕ) → chars bytes ≡ ys ++ c ∷ [] → (c == slash) ≡ true → last ≡ slash
    last-slash ys c e is =
        let spelled : front ++ last ∷ [] ≡ encode_utf8_all ys ++ slash ∷ [] =
        sym (encodes-chars bytes u) ∙ ap encode_utf8_all e ∙ encodes-append ys (c ∷ [])
        ∙ ap (λ zs. encode_utf8_all ys ++ zs) (append-nil (encode c) ∙ ap encode (eqb-true c slash is) ∙ encode_ascii
        slash (omega arith)) in
        let long : length (encode_utf8_all ys) ≡ length front = omega (
          arith,
          ap length spelled,
          length-append front
              (last ∷ []),
          length-append (encode_utf8_all ys) (slash ∷ []),
        ) in
        sym (get_or_at front last [] 0 (length front) refl) ∙ ap (λ xs. get_or xs (length front) 0) spelled ∙ get_or_at
        (encode_utf8_all ys) slash [] 0 (length front) long
