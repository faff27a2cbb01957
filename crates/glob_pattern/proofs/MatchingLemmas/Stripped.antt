-- What is left of a text, and of the tokens, when the ends of a pattern are stripped off.
use Rattle.std.proofs.Common.{◌≡◌, ℕ, ◌+◌, ◌-◌, ◌<◌, ◌≤◌, ◌↔◌, Bool, true, false, List, [], ◌∷◌, ◌++◌, length, map}
use Rattle.std.proofs.Common.{take, drop, get_or, refl, sym, ap, ap₂, subst, subst₂, ◌∙◌, arith, chars, append-nil}
use Rattle.std.proofs.Math.Seq.{drop-append_seam, take-append_seam}
use Rattle.std.proofs.lemmas.Bool.{and_from, and_parts}
use Rattle.std.proofs.lemmas.List.{drop-drop, drop-map, drop_more, get_or-map, length-append, length-drop, length-map}
use Rattle.std.proofs.lemmas.List.{length-take-le, map-append, nil_from_length, take-append-drop, take-map, take-take}
use Rattle.std.proofs.lemmas.List.{take_all, take_more}
use Rattle.std.proofs.lemmas.List.Folds.{drop_split}
use Rattle.std.proofs.lemmas.Str.{IsUtf8-take, IsUtf8-drop, IsCharBoundary-from_drop, chars-append, chars-encodes}
use Rattle.std.proofs.lemmas.Str.{encodes-append, encodes-chars, length-encode, scalars-chars}
use Rattle.std.specs.List.{slice_range}
use Rattle.std.specs.Str.{IsUtf8, IsCharBoundary, encode_utf8_all}
use Rattle.std.specs.Char.{len_utf8, to_ascii_lowercase}
use lib.Utf8.{encode, scalar, scalars}
use Rattle.glob_text.specs.Text.{Text}
use Rattle.glob_pattern.specs.Grammar.Tokens.{Token, shape_of}
use Rattle.glob_pattern.specs.Grammar.Units.{HasTokens}
use Rattle.glob_pattern.specs.Laws.{SameTexts}
use Rattle.glob_pattern.specs.Matching.Texts.{TokensMatch}
use Rattle.glob_pattern.specs.Private.Ends.{HasLiterals, IsEnds, HasEnds, SameBytes}
use Rattle.glob_pattern.specs.Private.Parts.{SplitsPart, Leaves}
use Rattle.glob_pattern.specs.Private.Prefixes.{PrefixSplits}
use Rattle.glob_pattern.specs.Private.TextTable.{opens_within}
use Rattle.glob_pattern.specs.declared.matcher.Shape.TheVariants.{One}
use Rattle.glob_pattern.specs.declared.options.MatchOptions.{MatchOptions}
use Rattle.glob_pattern.specs.declared.pattern.ends.Ends.{Ends}
use Rattle.glob_pattern.specs.declared.token.Token.TheVariants.{AnyChar, Literal}
use Rattle.glob_pattern.proofs.Counts.{length-chars}
use Rattle.glob_pattern.proofs.GrammarLemmas.Written.{text-begins, text-ends}
use Rattle.glob_pattern.proofs.MatchingLemmas.EndBytes.{SameTexts-from_bytes, length-SameTexts, boundary-first, boundary-last, chars-cut, HasEnds-from_texts}
use Rattle.glob_pattern.proofs.MatchingLemmas.Ends.{length-literals, TakesFirst-literals, first-from_SplitsPart}
use Rattle.glob_pattern.proofs.MatchingLemmas.Ends.{TakesLast-literals, last-from_SplitsPart}
use Rattle.glob_pattern.proofs.MatchingLemmas.Literals.{SameTexts-from_TokensMatch}
use Rattle.glob_pattern.proofs.MatchingLemmas.Parts.{TokensMatch-iff_part}

-- the rest of a list from a place on
pub range-end : {X : Type 0} (xs : List X) (i : ℕ) → take (length xs - i) (drop i xs) ≡ drop i xs
range-end xs i = take_all (length xs - i) (drop i xs) (omega (arith, length-drop i xs))

pub length-range : {X : Type 0} (xs : List X) (i j : ℕ) → i ≤ j → j ≤ length xs → length (slice_range xs i j) ≡ j - i
length-range xs i j le within = length-take-le (j - i) (drop i xs) (omega (arith, length-drop i xs))

-- bytes that are the same begin with the same bytes
SameBytes-take : (case : Bool) (n : ℕ) (bytes other : List ℕ) → SameBytes case bytes other → SameBytes case (take n bytes) (take n other)
SameBytes-take true n bytes other same = ap (take n) same
SameBytes-take false n bytes other same = sym (take-map to_ascii_lowercase n bytes) ∙ ap (take n) same ∙ take-map to_ascii_lowercase n other

-- and end with the same bytes
SameBytes-drop : (case : Bool) (n : ℕ) (bytes other : List ℕ) → SameBytes case bytes other → SameBytes case (drop n bytes) (drop n other)
SameBytes-drop true n bytes other same = ap (drop n) same
SameBytes-drop false n bytes other same = sym (drop-map to_ascii_lowercase n bytes) ∙ ap (drop n) same ∙ drop-map to_ascii_lowercase n other

-- both parts of a list of characters are characters
scalars-parts : (xs ys : Text) → scalars (xs ++ ys) ≡ true → (scalars xs ≡ true) × (scalars ys ≡ true)
scalars-parts [] ys all = (refl, all)
scalars-parts (x ∷ xs) ys all =
    let (first, rest) = and_parts (scalar x) (scalars (xs ++ ys)) all in
    let (front, back) = scalars-parts xs ys rest in
    (and_from (scalar x) (scalars xs) first front, back)

module _ (tokens : List Token) (ends : Ends) (is : IsEnds tokens ends) where
  pub fits : ends.lead + ends.trail ≤ length tokens
  fits = omega (arith, is.ones.within, length-map tokens shape_of)

  pub within-ends : ends.lead ≤ length tokens - ends.suffix.count
  within-ends = omega (arith, fits, is.few_last)

  pub count-lead : length (take ends.lead tokens) ≡ ends.lead
  count-lead = length-take-le ends.lead tokens (omega (arith, fits))

  count-first : length is.first.plain ≡ ends.prefix.count
  count-first = sym (length-literals is.first.plain _ is.first.tokens_are) ∙ length-take-le ends.prefix.count tokens
      (omega (arith, fits, is.few_first))

  count-last : length is.last.plain ≡ ends.suffix.count
  count-last =
      let long = length-drop (length tokens - ends.suffix.count) tokens in
      omega (arith, long, length-literals is.last.plain _ is.last.tokens_are, fits, is.few_last)

  tokens-first : tokens ≡ map Literal is.first.plain ++ drop ends.prefix.count tokens
  tokens-first = sym (take-append-drop ends.prefix.count tokens) ∙ ap (λ ts. ts ++ drop ends.prefix.count tokens) is.first.tokens_are

  tokens-last : drop ends.prefix.count tokens ≡ slice_range tokens ends.prefix.count
      (length tokens - ends.suffix.count) ++ (map Literal is.last.plain ++ [])
  tokens-last =
      drop_split tokens ends.prefix.count (length tokens - ends.suffix.count) (omega (arith, fits, is.few_first, is.few_last))
      ∙ ap (λ ts. slice_range tokens ends.prefix.count (length tokens - ends.suffix.count) ++ ts) (is.last.tokens_are
      ∙ sym (append-nil (map Literal is.last.plain)))

  count-inside : length (slice_range tokens ends.prefix.count (length tokens - ends.suffix.count)) ≡ length tokens -
      ends.suffix.count - ends.prefix.count
  count-inside = length-range tokens ends.prefix.count (length tokens - ends.suffix.count)
      (omega (arith, fits, is.few_first, is.few_last)) (omega arith)

  -- the pattern's text begins and ends with the bytes of the literals
  module _ (pattern : List ℕ) (u : IsUtf8 pattern) (has : HasTokens (chars pattern) tokens) where
    pub pattern-first : (take ends.prefix.bytes pattern ≡ encode_utf8_all is.first.plain) ×
        (ends.prefix.bytes ≤ length pattern) × (scalars is.first.plain ≡ true)
    pattern-first =
        let (rest, split) = text-begins (chars pattern) is.first.plain tokens (drop ends.prefix.count tokens) has tokens-first in
        let a = encode_utf8_all is.first.plain in
        let spelled : pattern ≡ a ++ encode_utf8_all rest = sym (encodes-chars pattern u) ∙ ap encode_utf8_all split
        ∙ encodes-append is.first.plain rest in (
          ap₂ take is.first.count_is spelled ∙ take-append_seam a (encode_utf8_all rest),
          omega (arith, is.first.count_is, ap length spelled, length-append a (encode_utf8_all rest)),
          (scalars-parts is.first.plain rest (ap scalars (sym split) ∙ scalars-chars pattern u)).0,
        )

    pub pattern-last : (drop (length pattern - ends.suffix.bytes) pattern ≡ encode_utf8_all is.last.plain) ×
        (ends.suffix.bytes ≤ length pattern) × (scalars is.last.plain ≡ true)
    pattern-last =
        let front = take (length tokens - ends.suffix.count) tokens in
        let whole : tokens ≡ front ++ map Literal is.last.plain = sym (take-append-drop
        (length tokens - ends.suffix.count) tokens) ∙ ap (λ ts. front ++ ts) is.last.tokens_are in
        let (rest, split) = text-ends (chars pattern) is.last.plain tokens front has whole in
        let z = encode_utf8_all is.last.plain in
        let r = encode_utf8_all rest in
        let spelled : pattern ≡ r ++ z = sym (encodes-chars pattern u) ∙ ap encode_utf8_all split ∙ encodes-append rest is.last.plain in
        let long : length pattern ≡ length r + length z = ap length spelled ∙ length-append r z in
        let place : length pattern - ends.suffix.bytes ≡ length r = omega (arith, long, is.last.count_is) in (
          ap₂ drop place spelled ∙ drop-append_seam r z,
          omega (arith, is.last.count_is, long),
          (scalars-parts rest is.last.plain (ap scalars (sym split) ∙ scalars-chars pattern u)).1,
        )

  -- a text that the tokens match has the literals at its ends
  pub ends-from_match : (o : MatchOptions) (bytes : List ℕ) → IsUtf8 bytes → TokensMatch o tokens (chars bytes)
      → HasEnds o.case_sensitive (encode_utf8_all is.first.plain) (encode_utf8_all is.last.plain) bytes
  ends-from_match o bytes u match =
      let text = chars bytes in
      let behind = drop ends.prefix.count tokens in
      let inside = slice_range tokens ends.prefix.count (length tokens - ends.suffix.count) in
      let many : length tokens ≡ length is.first.plain + (length tokens - ends.prefix.count) = omega
      (arith, count-first, fits, is.few_first) in
      let all : SplitsPart o true (map Literal is.first.plain ++ behind) (length tokens) text =
      subst (λ ts. SplitsPart o true ts (length tokens) text) tokens-first ((TokensMatch-iff_part o tokens text).0 match) in
      let (here, rest, first, begins) = first-from_SplitsPart o is.first.plain true behind
      (length tokens - ends.prefix.count) (length tokens) text many all in
      let taken = TakesFirst-literals o is.first.plain here true rest begins behind (length tokens - ends.prefix.count)
      (length tokens) (omega (arith, many, length-literals is.first.plain (map Literal is.first.plain) refl)) in
      let left = taken.0 (subst (SplitsPart o true (map Literal is.first.plain ++ behind) (length tokens)) first all) in
      let (between, there, last, stops) = last-from_SplitsPart o is.last.plain (opens_within true here (length here))
      inside [] (length inside) (length tokens - ends.prefix.count) rest refl
      (omega (arith, count-inside, count-last, fits, is.few_first, is.few_last))
      (subst (λ ts. SplitsPart o (opens_within true here (length here)) ts (length tokens - ends.prefix.count)
      rest) tokens-last left) in
      HasEnds-from_texts o.case_sensitive is.first.plain is.last.plain bytes here between there u
      (first ∙ ap (λ xs. here ++ xs) last) begins stops

  -- if all tokens are literals, it has their length
  pub literals-length : (o : MatchOptions) (bytes : List ℕ) → IsUtf8 bytes → ends.prefix.count ≡ length tokens
      → TokensMatch o tokens (chars bytes) → length bytes ≡ ends.prefix.bytes
  literals-length o bytes u all match =
      let whole : tokens ≡ map Literal is.first.plain = sym (take_all ends.prefix.count tokens (omega (arith, all))) ∙ is.first.tokens_are in
      let same = SameTexts-from_TokensMatch o Literal (λ x. (refl, λ opening c. refl)) is.first.plain (chars bytes)
      (subst (λ ts. TokensMatch o ts (chars bytes)) whole match) in
      ap length (sym (encodes-chars bytes u)) ∙ length-SameTexts o.case_sensitive (chars bytes) is.first.plain same ∙ sym is.first.count_is

  -- and a text with these ends matches if the tokens between them split what is between
  module _ (o : MatchOptions) (bytes : List ℕ) (u : IsUtf8 bytes) (start end : ℕ) (s : start ≡ length
      (encode_utf8_all is.first.plain)) (e : end ≡ length bytes - length (encode_utf8_all is.last.plain))
      (a : scalars is.first.plain ≡ true) (z : scalars is.last.plain ≡ true) (has : HasEnds o.case_sensitive
      (encode_utf8_all is.first.plain) (encode_utf8_all is.last.plain) bytes) where
    pub start-boundary : IsCharBoundary bytes start
    start-boundary = subst (IsCharBoundary bytes) (sym s) (boundary-first o.case_sensitive bytes
        (encode_utf8_all is.first.plain) u (is.first.plain, (a, refl)) (omega (arith, has.within)) has.first)

    pub end-boundary : IsCharBoundary bytes end
    end-boundary = subst (IsCharBoundary bytes) (sym e) (boundary-last o.case_sensitive bytes
        (encode_utf8_all is.last.plain) u (is.last.plain, (z, refl)) (omega (arith, has.within)) has.last)

    pub in_order : start ≤ end
    in_order = omega (arith, s, e, has.within)

    rest-split : chars (drop start bytes) ≡ chars (slice_range bytes start end) ++ chars (drop end bytes)
    rest-split =
        let back : drop (end - start) (drop start bytes) ≡ drop end bytes = drop-drop (end - start) start bytes ∙ ap
        (λ k. drop k bytes) (omega (arith, in_order)) in
        let later = IsUtf8-drop bytes start u start-boundary in
        let at = IsCharBoundary-from_drop (drop start bytes) (end - start) (omega (
          arith,
          in_order,
          length-drop start
              bytes,
          end-boundary.0,
        )) (subst IsUtf8 (sym back) (IsUtf8-drop bytes end u end-boundary)) in
        ap chars (drop_split bytes start end in_order) ∙ chars-append (slice_range bytes start end) (drop end bytes)
        (IsUtf8-take (drop start bytes) (end - start) later at)

    same-first : SameTexts o.case_sensitive (chars (take start bytes)) is.first.plain
    same-first =
        subst (SameTexts o.case_sensitive (chars (take start bytes))) (chars-encodes is.first.plain a)
        (SameTexts-from_bytes o.case_sensitive (take start bytes) (encode_utf8_all is.first.plain)
        (IsUtf8-take bytes start u start-boundary) (is.first.plain, (a, refl))
        (subst (λ n. SameBytes o.case_sensitive (take n bytes) (encode_utf8_all is.first.plain)) (sym s) has.first))

    same-last : SameTexts o.case_sensitive (chars (drop end bytes)) is.last.plain
    same-last =
        subst (SameTexts o.case_sensitive (chars (drop end bytes))) (chars-encodes is.last.plain z)
        (SameTexts-from_bytes o.case_sensitive (drop end bytes) (encode_utf8_all is.last.plain)
        (IsUtf8-drop bytes end u end-boundary) (is.last.plain, (z, refl))
        (subst (λ n. SameBytes o.case_sensitive (drop n bytes) (encode_utf8_all is.last.plain)) (sym e) has.last))

    pub inside-count : length (chars bytes) ≡ length (chars (slice_range bytes start end)) +
        (ends.prefix.count + (length tokens - (length tokens - ends.suffix.count)))
    inside-count =
        let inside = chars (slice_range bytes start end) in
        let here = chars (take start bytes) in
        omega (
          arith,
          ap length (chars-cut bytes start u start-boundary),
          length-append here (chars (drop start bytes)),
          ap length rest-split,
          length-append inside (chars (drop end bytes)),
          same-first.0,
          same-last.0,
          count-first,
          count-last,
          fits,
          is.few_last,
        )

    pub match-iff_inside : TokensMatch o tokens (chars bytes)
        ↔ SplitsPart o (opens_within true (chars (take start bytes)) (length (chars (take start bytes))))
        (drop ends.prefix.count tokens) (length tokens - ends.suffix.count - ends.prefix.count)
        (chars (slice_range bytes start end))
    match-iff_inside =
        let here = chars (take start bytes) in
        let opening = opens_within true here (length here) in
        let behind = drop ends.prefix.count tokens in
        let inside = slice_range tokens ends.prefix.count (length tokens - ends.suffix.count) in
        let left : ℕ = length tokens - ends.prefix.count in
        let whole = TokensMatch-iff_part o tokens (chars bytes) in
        let first = subst₂ (λ ts text. SplitsPart o true ts (length tokens) text ↔ SplitsPart o opening behind left
        (chars (drop start bytes))) (sym tokens-first) (sym (chars-cut bytes start u start-boundary))
        (TakesFirst-literals o is.first.plain here true (chars (drop start bytes)) same-first behind left
        (length tokens) (omega (
          arith,
          count-first,
          fits,
          is.few_first,
          length-literals is.first.plain
              (map Literal is.first.plain) refl,
        ))) in
        let last = subst₂ (λ ts text. SplitsPart o opening ts left text ↔ SplitsPart o opening ts (length inside)
        (chars (slice_range bytes start end))) (sym tokens-last) (sym rest-split)
        (TakesLast-literals o is.last.plain (chars (drop end bytes)) opening (chars (slice_range bytes start end))
        same-last inside [] (length inside) left refl
        (omega (
          arith,
          count-inside,
          count-last,
          fits,
          is.few_first,
          is.few_last,
          length-literals is.last.plain
              (map Literal is.last.plain) refl,
        ))) in
        subst (λ n. TokensMatch o tokens (chars bytes) ↔ SplitsPart o opening behind n (chars (slice_range bytes start end))) count-inside
        (λ match. last.0 (first.0 (whole.0 match)), λ splits. whole.1 (first.1 (last.1 splits)))

  -- the same, for literals taken from the pattern's text
  module _ (pattern : List ℕ) (v : IsUtf8 pattern) (read : HasTokens (chars pattern) tokens) (o : MatchOptions)
      (bytes : List ℕ) (u : IsUtf8 bytes) where
    pub match-needs_ends : (HasEnds o.case_sensitive (take ends.prefix.bytes pattern)
        (drop (length pattern - ends.suffix.bytes) pattern) bytes → ⊥) → TokensMatch o tokens (chars bytes) → ⊥
    match-needs_ends none match =
        none (subst₂ (λ a z. HasEnds o.case_sensitive a z bytes) (sym (pattern-first pattern v read).0)
        (sym (pattern-last pattern v read).0) (ends-from_match o bytes u match))

    module _ (found : HasEnds o.case_sensitive (take ends.prefix.bytes pattern)
        (drop (length pattern - ends.suffix.bytes) pattern) bytes) where
      literal-ends : HasEnds o.case_sensitive (encode_utf8_all is.first.plain) (encode_utf8_all is.last.plain) bytes
      literal-ends = subst₂ (λ a z. HasEnds o.case_sensitive a z bytes) (pattern-first pattern v read).0
          (pattern-last pattern v read).0 found

      pub cut-within : ends.prefix.bytes + ends.suffix.bytes ≤ length bytes
      cut-within = omega (arith, literal-ends.within, is.first.count_is, is.last.count_is)

      pub first-byte : 0 < ends.prefix.bytes → SameBytes o.case_sensitive (take 1 bytes) (take 1 pattern)
      first-byte some =
          let prefix = take ends.prefix.bytes pattern in
          let long = length-take-le ends.prefix.bytes pattern (pattern-first pattern v read).1 in
          subst₂ (SameBytes o.case_sensitive) (take-take 1 (length prefix) bytes (omega (arith, some, long)))
          (take-take 1 ends.prefix.bytes pattern some)
          (SameBytes-take o.case_sensitive 1 (take (length prefix) bytes) prefix found.first)

      pub last-byte : 0 < ends.suffix.bytes → SameBytes o.case_sensitive (drop (length bytes - 1) bytes) (drop (length pattern - 1) pattern)
      last-byte some =
          let place : ℕ = length pattern - ends.suffix.bytes in
          let suffix = drop place pattern in
          let few = (pattern-last pattern v read).1 in
          let long : length suffix ≡ ends.suffix.bytes = omega (arith, few, length-drop place pattern) in
          subst₂ (SameBytes o.case_sensitive)
          (drop-drop (length suffix - 1) (length bytes - length suffix) bytes
          ∙ ap (λ k. drop k bytes) (omega (arith, some, long, cut-within)))
          (drop-drop (length suffix - 1) place pattern ∙ ap (λ k. drop k pattern) (omega (arith, some, long, few)))
          (SameBytes-drop o.case_sensitive (length suffix - 1) (drop (length bytes - length suffix) bytes) suffix found.last)

      pub cut-start : IsCharBoundary bytes ends.prefix.bytes
      cut-start = start-boundary o bytes u ends.prefix.bytes (length bytes - ends.suffix.bytes) is.first.count_is
          (ap (λ n. length bytes - n) is.last.count_is)
          (pattern-first pattern v read).2 (pattern-last pattern v read).2 literal-ends

      pub cut-end : IsCharBoundary bytes (length bytes - ends.suffix.bytes)
      cut-end = end-boundary o bytes u ends.prefix.bytes (length bytes - ends.suffix.bytes) is.first.count_is
          (ap (λ n. length bytes - n) is.last.count_is)
          (pattern-first pattern v read).2 (pattern-last pattern v read).2 literal-ends

      pub cut-count : length (chars bytes) ≡ length (chars (slice_range bytes ends.prefix.bytes (length bytes - ends.suffix.bytes))) +
          (ends.prefix.count + (length tokens - (length tokens - ends.suffix.count)))
      cut-count = inside-count o bytes u ends.prefix.bytes (length bytes - ends.suffix.bytes) is.first.count_is
          (ap (λ n. length bytes - n) is.last.count_is)
          (pattern-first pattern v read).2 (pattern-last pattern v read).2 literal-ends

      pub cut-match : TokensMatch o tokens (chars bytes)
          ↔ SplitsPart o (opens_within true (chars (take ends.prefix.bytes bytes))
          (length (chars (take ends.prefix.bytes bytes)))) (drop ends.prefix.count tokens)
          (length tokens - ends.suffix.count - ends.prefix.count)
          (chars (slice_range bytes ends.prefix.bytes (length bytes - ends.suffix.bytes)))
      cut-match = match-iff_inside o bytes u ends.prefix.bytes (length bytes - ends.suffix.bytes) is.first.count_is
          (ap (λ n. length bytes - n) is.last.count_is)
          (pattern-first pattern v read).2 (pattern-last pattern v read).2 literal-ends

  -- without literals at the ends the whole text is left
  pub leaves-whole : (o : MatchOptions) (text : List ℕ) → IsUtf8 text → ends.prefix.count ≡ 0 → ends.suffix.count ≡ 0
      → Leaves o tokens text ends.prefix.count (length tokens - ends.suffix.count) text true
  leaves-whole o text u first last =
      let all : length tokens ≡ length tokens - ends.suffix.count - ends.prefix.count = omega (arith, first, last) in
      record {
        utf8 = u;
        count = omega (arith, first, last);
        match = subst₂ (λ k n. TokensMatch o tokens (chars text) ↔ SplitsPart o true (drop k tokens) n (chars text))
            (sym first) all (TokensMatch-iff_part o tokens (chars text));
      }

  -- a token of the ends takes one character
  one-token : (n : ℕ) → n < length tokens → get_or (map shape_of tokens) n One ≡ One → shape_of (get_or tokens n AnyChar) ≡ One
  one-token n lt one = sym (get_or-map shape_of tokens n AnyChar One lt) ∙ one

  pub one-first : (k : ℕ) → k < ends.lead → shape_of (get_or tokens k AnyChar) ≡ One
  one-first k lt = one-token k (omega (arith, lt, fits)) (is.ones.first k lt)

  pub one-last : (k : ℕ) → length tokens - ends.trail ≤ k → k < length tokens → shape_of (get_or tokens k AnyChar) ≡ One
  one-last k low lt =
      let place : length (map shape_of tokens) - 1 - (length tokens - 1 - k) ≡ k = omega (arith, lt, length-map tokens shape_of) in
      one-token k lt (rw place at (is.ones.last (length tokens - 1 - k) (omega (arith, low, lt, fits))))

-- one more literal at the end, or at the start
pub HasLiterals-next : (tokens : List Token) (n c bytes : ℕ) (t : Token) → n < length tokens → t ≡ get_or tokens n t
    → t ≡ Literal c → HasLiterals (take n tokens) bytes → HasLiterals (take (n + 1) tokens) (bytes + len_utf8 c)
HasLiterals-next tokens n c bytes t lt at is before = record {
  plain = before.plain ++ c ∷ [];
  tokens_are = take_more tokens n t lt ∙ ap₂ (λ ts u. ts ++ u ∷ []) before.tokens_are (sym at ∙ is) ∙ sym
      (map-append Literal before.plain (c ∷ []));
  count_is =
      let long = length-append (encode_utf8_all before.plain) (encode_utf8_all (c ∷ [])) in
      omega (
        arith,
        before.count_is,
        ap length (encodes-append before.plain (c ∷ [])),
        long,
        ap length
            (append-nil (encode c)),
        length-encode c,
      );
}

pub HasLiterals-before : (tokens : List Token) (n c bytes : ℕ) (t : Token) → n < length tokens → t ≡ get_or tokens n t
    → t ≡ Literal c → HasLiterals (drop (n + 1) tokens) bytes → HasLiterals (drop n tokens) (bytes + len_utf8 c)
HasLiterals-before tokens n c bytes t lt at is after = record {
  plain = c ∷ after.plain;
  tokens_are = drop_more tokens n t lt ∙ ap₂ (λ u ts. u ∷ ts) (sym at ∙ is) after.tokens_are;
  count_is = omega (arith, after.count_is, length-append (encode c) (encode_utf8_all after.plain), length-encode c);
}

-- no tokens split only the empty text
pub SplitsPart-none : (o : MatchOptions) (opening : Bool) (tokens : List Token) (bytes : List ℕ) → IsUtf8 bytes
    → SplitsPart o opening tokens 0 (chars bytes) ↔ (length bytes ≡ 0)
unfolding SplitsPart PrefixSplits
SplitsPart-none o opening tokens bytes u = (
  λ none. ap length (sym (encodes-chars bytes u) ∙ ap encode_utf8_all (nil_from_length (chars bytes) none)),
  λ none. omega (arith, none, length-chars bytes),
)
