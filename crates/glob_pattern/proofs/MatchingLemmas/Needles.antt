-- Every text that a pattern matches contains the pattern's needle, in either case.
use Rattle.std.proofs.Common.{◌≡◌, ℕ, suc, ◌+◌, ◌≤◌, ◌⊎◌, Bool, not, ◌&&◌, ◌==◌, List, [], ◌∷◌, ◌++◌, length, map, take}
use Rattle.std.proofs.Common.{drop, IsTrue, ⊎_elim, refl, sym, ap, ap₂, subst, ◌∙◌, arith, chars, append_assoc}
use Rattle.std.proofs.Common.{append-nil}
use Rattle.std.proofs.Math.Seq.{drop-append_seam, take-append_seam}
use Rattle.std.proofs.lemmas.Bool.{or_cases, and_parts, eqb-true, ltb-true}
use Rattle.std.proofs.lemmas.List.{length-append, length-map, length-take-le, map-append, take-append-drop}
use Rattle.std.proofs.lemmas.Str.{encode_ascii, encodes-append, encodes-chars}
use Rattle.std.specs.Char.{is_ascii, to_ascii_lowercase}
use Rattle.std.specs.Str.{IsUtf8, encode_utf8_all}
use lib.Utf8.{encode}
use Rattle.glob_text.specs.Text.{Text}
use Rattle.glob_pattern.specs.Grammar.Brackets.{is_same}
use Rattle.glob_pattern.specs.Grammar.Tokens.{Token}
use Rattle.glob_pattern.specs.Matching.Texts.{TokensMatch}
use Rattle.glob_pattern.specs.Laws.{SameTexts, StandsIn}
use Rattle.glob_pattern.specs.Private.Parts.{SplitsPart}
use Rattle.glob_pattern.specs.Private.Needles.{IsNeedle, IsAt, ContainsFolded}
use Rattle.glob_pattern.specs.declared.options.MatchOptions.{MatchOptions}
use Rattle.glob_pattern.specs.declared.pattern.needle.Needle.{Needle}
use Rattle.glob_pattern.specs.declared.token.Token.TheVariants.{Literal}
use Rattle.glob_pattern.proofs.MatchingLemmas.Ends.{length-literals, last-from_SplitsPart}
use Rattle.glob_pattern.proofs.MatchingLemmas.Parts.{SplitsPart-fewer}
use Rattle.glob_pattern.proofs.MatchingLemmas.PlainTokens.{plain_tokens_stand}

-- a needle of some of the tokens is a needle of all tokens
pub IsNeedle-within : (tokens : List Token) (needle : Needle) (start n : ℕ) → IsNeedle (take n (drop start tokens))
    needle → IsNeedle tokens needle
IsNeedle-within tokens needle start n part = record {
  front = take start tokens ++ part.front;
  back = part.back ++ drop n (drop start tokens);
  plain = part.plain;
  tokens_are =
      let split : tokens ≡ take start tokens ++ ((part.front ++ (map Literal part.plain ++ part.back)) ++ drop n (drop start tokens)) =
      sym (take-append-drop start tokens) ∙ ap (λ ts. take start tokens ++ ts)
      (sym (take-append-drop n (drop start tokens)) ∙ ap (λ ts. ts ++ drop n (drop start tokens)) part.tokens_are)
      in
      simp append_assoc (simp append_assoc at split);
  bytes_are = part.bytes_are;
}

-- the tokens before an offset end in those of the needle
abbrev pub EndsIn : List Token → ℕ → Needle → Type 0
EndsIn tokens i needle = (is : IsNeedle tokens needle) × (is.back ≡ drop i tokens)

pub EndsIn-none : (tokens : List Token) (i : ℕ) (needle : Needle) → needle.len ≡ 0 → EndsIn tokens i needle
EndsIn-none tokens i needle none = (
  record {
    front = take i tokens;
    plain = [];
    back = drop i tokens;
    tokens_are = sym (take-append-drop i tokens);
    bytes_are = ap (λ n. take n needle.bytes) none;
  },
  refl,
)

-- one more literal is appended, or begins the needle
pub EndsIn-with : (tokens : List Token) (i c : ℕ) (needle with : Needle) → drop i tokens ≡ Literal c ∷ drop
    (i + 1) tokens → EndsIn tokens i needle
    → (take with.len with.bytes ≡ take needle.len needle.bytes ++ encode c) ⊎ (take with.len with.bytes ≡ encode c)
    → EndsIn tokens (i + 1) with
EndsIn-with tokens i c needle with next (is, back) =
    ⊎_elim
    (λ added. (
      record {
        front = is.front;
        plain = is.plain ++ c ∷ [];
        back = drop (i + 1) tokens;
        tokens_are = is.tokens_are ∙ ap (λ ts. is.front ++ (map Literal is.plain ++ ts)) (back ∙ next)
            ∙ ap (λ ts. is.front ++ ts) (sym (ap (λ ts. ts ++ drop (i + 1) tokens) (map-append Literal is.plain
            (c ∷ [])) ∙ append_assoc (map Literal is.plain) (Literal c ∷ []) (drop (i + 1) tokens)));
        bytes_are = added ∙ ap₂ (λ a b. a ++ b) is.bytes_are (sym (append-nil (encode c))) ∙ sym (encodes-append is.plain (c ∷ []));
      },
      refl,
    ))
    (λ alone. (
      record {
        front = take i tokens;
        plain = c ∷ [];
        back = drop (i + 1) tokens;
        tokens_are = sym (take-append-drop i tokens) ∙ ap (λ ts. take i tokens ++ ts) next;
        bytes_are = alone ∙ sym (append-nil (encode c));
      },
      refl,
    ))

-- characters that are the same have the same bytes once letters are in lower case
small-same : (case : Bool) (c x : ℕ) → IsTrue (is_same case c x) → map to_ascii_lowercase (encode c) ≡ map to_ascii_lowercase (encode x)
small-same case c x same =
    ⊎_elim
    (λ is. ap (λ y. map to_ascii_lowercase (encode y)) (eqb-true c x is))
    (λ both.
    let (ascii, small) = and_parts (not case && is_ascii c && is_ascii x) (to_ascii_lowercase c == to_ascii_lowercase x) both in
    let (first, second) = and_parts (not case && is_ascii c) (is_ascii x) ascii in
    ap (map to_ascii_lowercase) (encode_ascii c (ltb-true c 128 (and_parts (not case) (is_ascii c) first).1))
    ∙ ap (λ y. y ∷ []) (eqb-true (to_ascii_lowercase c) (to_ascii_lowercase x) small)
    ∙ sym (ap (map to_ascii_lowercase) (encode_ascii x (ltb-true x 128 second))))
    (or_cases (c == x) (not case && is_ascii c && is_ascii x && to_ascii_lowercase c == to_ascii_lowercase x) same)

-- the same for whole texts
pub small-SameTexts : (case : Bool) (xs ys : Text) → SameTexts case xs ys → map to_ascii_lowercase (encode_utf8_all xs)
    ≡ map to_ascii_lowercase (encode_utf8_all ys)
small-SameTexts case [] [] same = refl
small-SameTexts case [] (y ∷ ys) same = absurd (omega arith)
small-SameTexts case (x ∷ xs) [] same = absurd (omega arith)
small-SameTexts case (x ∷ xs) (y ∷ ys) (lengths, each) =
    map-append to_ascii_lowercase (encode x) (encode_utf8_all xs)
    ∙ ap₂ (λ a b. a ++ b) (small-same case x y (each 0 (omega arith))) (small-SameTexts case xs ys
    (omega arith, λ k l. each (suc k) (omega arith)))
    ∙ sym (map-append to_ascii_lowercase (encode y) (encode_utf8_all ys))

-- bytes made of a front, the needle and a back contain the needle
IsAt-from_split : (before here after bytes needle : List ℕ) → bytes ≡ before ++ (here ++ after)
    → map to_ascii_lowercase here ≡ map to_ascii_lowercase needle
    → IsAt bytes needle (length before)
IsAt-from_split before here after bytes needle split small =
    let long : length here ≡ length needle = sym (length-map here to_ascii_lowercase) ∙ ap length small
    ∙ length-map needle to_ascii_lowercase in
    let cut : take (length needle) (drop (length before) bytes) ≡ here =
    ap₂ (λ n xs. take n (drop (length before) xs)) (sym long) split ∙ ap (take (length here)) (drop-append_seam before
    (here ++ after)) ∙ take-append_seam here after in
    record {
      within = omega (arith, ap length split, length-append before (here ++ after), length-append here after);
      folded = ap (map to_ascii_lowercase) cut ∙ small;
    }

-- a text that the tokens match contains their needle
pub ContainsFolded-from_needle : (o : MatchOptions) (tokens : List Token) (needle : Needle) (bytes : List ℕ)
    → IsNeedle tokens needle → IsUtf8 bytes
    → TokensMatch o tokens (chars bytes) → ContainsFolded bytes (take needle.len needle.bytes)
ContainsFolded-from_needle o tokens needle bytes is utf8 match =
    let stands : StandsIn o.case_sensitive is.front is.plain is.back (chars bytes) =
    plain_tokens_stand o is.front is.plain is.back (chars bytes) (subst (λ ts. TokensMatch o ts (chars bytes)) is.tokens_are match) in
    record {
      offset = length (encode_utf8_all stands.before);
      stands = IsAt-from_split (encode_utf8_all stands.before) (encode_utf8_all stands.here)
          (encode_utf8_all stands.after) bytes (take needle.len needle.bytes)
          (sym (encodes-chars bytes utf8) ∙ ap encode_utf8_all stands.split ∙ encodes-append stands.before (stands.here ++ stands.after)
          ∙ ap (λ xs. encode_utf8_all stands.before ++ xs) (encodes-append stands.here stands.after))
          (small-SameTexts o.case_sensitive stands.here is.plain stands.same ∙ ap (map to_ascii_lowercase) (sym is.bytes_are));
    }

-- a part that the first of some tokens split contains the needle of these
pub ContainsFolded-from_part : (o : MatchOptions) (opening : Bool) (tokens : List Token) (n : ℕ) (needle : Needle)
    (bytes : List ℕ) → n ≤ length tokens → IsNeedle (take n tokens) needle → IsUtf8 bytes
    → SplitsPart o opening tokens n (chars bytes) → ContainsFolded bytes (take needle.len needle.bytes)
ContainsFolded-from_part o opening tokens n needle bytes within is utf8 splits =
    let text = chars bytes in
    let rest = is.back ++ drop n tokens in
    let m : ℕ = length is.front + length is.plain in
    let whole : tokens ≡ is.front ++ (map Literal is.plain ++ rest) =
    sym (take-append-drop n tokens) ∙ ap (λ ts. ts ++ drop n tokens) is.tokens_are ∙ append_assoc is.front
    (map Literal is.plain ++ is.back) (drop n tokens)
    ∙ ap (λ ts. is.front ++ ts) (append_assoc (map Literal is.plain) is.back (drop n tokens)) in
    let few : m ≤ n =
    omega (
      arith,
      length-take-le n tokens within,
      ap length is.tokens_are,
      length-append is.front
          (map Literal is.plain ++ is.back),
      length-append (map Literal is.plain) is.back,
      length-literals is.plain
          (map Literal is.plain) refl,
    ) in
    let (j, fewer) = SplitsPart-fewer o opening tokens n m text few splits in
    let (before, here, split, same) = last-from_SplitsPart o is.plain opening is.front rest (length is.front) m
    (take j text) refl refl (subst (λ ts. SplitsPart o opening ts m (take j text)) whole fewer) in
    let after = drop j text in
    let all : text ≡ before ++ (here ++ after) = sym (take-append-drop j text) ∙ ap (λ xs. xs ++ after) split
    ∙ append_assoc before here after in
    record {
      offset = length (encode_utf8_all before);
      stands = IsAt-from_split (encode_utf8_all before) (encode_utf8_all here) (encode_utf8_all after) bytes (take needle.len needle.bytes)
          (sym (encodes-chars bytes utf8) ∙ ap encode_utf8_all all ∙ encodes-append before (here ++ after) ∙ ap
          (λ xs. encode_utf8_all before ++ xs) (encodes-append here after))
          (small-SameTexts o.case_sensitive here is.plain same ∙ ap (map to_ascii_lowercase) (sym is.bytes_are));
    }
