-- How many bytes parts of a text have.
use Rattle.std.proofs.Common.{◌≡◌, ℕ, ◌+◌, ◌-◌, ◌≤◌, List, [], ◌∷◌, ◌++◌, length, take, drop, ap, ◌∙◌, arith}
use Rattle.std.specs.Prelude.{encode_utf8, encode_utf8_all}
use Rattle.std.proofs.lemmas.List.{length-append, take-append-drop}
use Rattle.std.proofs.Math.Seq.{take-add}
use Rattle.std.proofs.lemmas.Str.{encodes-append}

-- the bytes of two texts, one after the other
pub length-encodes_append : (xs ys : List ℕ) → length (encode_utf8_all (xs ++ ys)) ≡ length (encode_utf8_all xs) +
    length (encode_utf8_all ys)
length-encodes_append xs ys = ap length (encodes-append xs ys) ∙ length-append (encode_utf8_all xs) (encode_utf8_all ys)

-- the bytes of a text and a character
pub length-encodes_push : (xs : List ℕ) (c : ℕ) → length (encode_utf8_all (xs ++ c ∷ [])) ≡ length (encode_utf8_all xs)
    + length (encode_utf8 c)
length-encodes_push xs c =
    let one = length-append (encode_utf8 c) [] in
    omega (arith, length-encodes_append xs (c ∷ []), one)

-- the front of a text has no more bytes than the text
pub length-encodes_take : (cs : List ℕ) (i : ℕ) → length (encode_utf8_all (take i cs)) ≤ length (encode_utf8_all cs)
length-encodes_take cs i =
    omega (arith, length-encodes_append (take i cs) (drop i cs), ap (λ xs. length (encode_utf8_all xs)) (take-append-drop i cs))

-- the back of a text has no more bytes than the text
pub length-encodes_drop : (cs : List ℕ) (i : ℕ) → length (encode_utf8_all (drop i cs)) ≤ length (encode_utf8_all cs)
length-encodes_drop cs i =
    omega (arith, length-encodes_append (take i cs) (drop i cs), ap (λ xs. length (encode_utf8_all xs)) (take-append-drop i cs))

-- the place j, in bytes, from the place i before it
pub byte_place_later : (cs : List ℕ) (i j : ℕ) → i ≤ j → length (encode_utf8_all (take j cs)) ≡ length (encode_utf8_all
    (take i cs)) + length (encode_utf8_all (take (j - i) (drop i cs)))
byte_place_later cs i j low =
    let at : j ≡ i + (j - i) = omega arith in
    ap (λ k. length (encode_utf8_all (take k cs))) at
    ∙ ap (λ xs. length (encode_utf8_all xs)) (take-add i (j - i) cs) ∙ length-encodes_append (take i cs) (take (j - i) (drop i cs))

-- a piece of a text has no more bytes
pub length-encodes_piece : (cs : List ℕ) (i m : ℕ) → length (encode_utf8_all (take m (drop i cs))) ≤ length (encode_utf8_all cs)
length-encodes_piece cs i m = omega (arith, length-encodes_take (drop i cs) m, length-encodes_drop cs i)
