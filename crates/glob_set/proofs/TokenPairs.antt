-- Neighbouring literals of a pattern are neighbouring bytes in every text that it matches.
use Rattle.std.proofs.Common.{◌≡◌, ℕ, suc, ◌+◌, ◌*◌, ◌%◌, ◌<◌, Bool, not, ◌&&◌, ◌==◌, zero, List, [], ◌∷◌, ◌++◌, length}
use Rattle.std.proofs.Common.{map, take, drop, drop-cons, get_or, IsTrue, ⊎_elim, refl, sym, ap, ap₂, subst, ◌∙◌, arith}
use Rattle.std.proofs.Common.{chars}
use Rattle.std.proofs.Math.Nat.{add-mod_right}
use Rattle.std.proofs.lemmas.Bool.{or_cases, and_parts, eqb-true, ltb-true, cases_lt}
use Rattle.std.proofs.lemmas.List.{take-append-drop, drop_all}
use Rattle.std.proofs.lemmas.Str.{encode_ascii, encodes-append, encodes-chars}
use Rattle.std.proofs.lemmas.Str.Ascii.{lowercase_is}
use Rattle.std.specs.Char.{is_ascii, to_ascii_lowercase}
use Rattle.std.specs.Str.{IsUtf8, encode_utf8_all}
use Rattle.glob_text.specs.Text.{Text}
use Rattle.glob_pattern.specs.Grammar.Brackets.{is_same}
use Rattle.glob_pattern.specs.Grammar.Tokens.{Token}
use Rattle.glob_pattern.specs.Matching.Literals.{HasCount, HasLiteral}
use Rattle.glob_pattern.specs.Matching.Texts.{TokensMatch}
use Rattle.glob_pattern.specs.Laws.{SameTexts, StandsIn}
use Rattle.glob_pattern.specs.declared.options.MatchOptions.{MatchOptions}
use Rattle.glob_pattern.specs.declared.token.Token.TheVariants.{Literal, AnyChar}
use Rattle.glob_pattern.proofs.CallerLemmas.{tokens_of_match}
use Rattle.glob_pattern.proofs.MatchingLemmas.PlainTokens.{plain_tokens_stand}
use Rattle.glob_set.specs.Private.Pairs.{pair_class, class_bit, pair_bits, text_bits, text_class, HasBits, HasClass, IsPairAt}
use Rattle.glob_set.proofs.PairLemmas.{Within, first_within, pair_within, class_of_last}

lower_same : (c : ℕ) → to_ascii_lowercase c % 32 ≡ c % 32
lower_same c =
    let cases = lowercase_is c in
    ⊎_elim (λ low. ap (λ x. x % 32) (cases.1 low))
    (λ above. ⊎_elim
    (λ within. ap (λ x. x % 32) (cases.0 (omega (arith, above), omega (arith, within))) ∙ add-mod_right c 32)
    (λ beyond. ap (λ x. x % 32) (cases.2 (omega (arith, beyond))))
    (cases_lt c 91))
    (cases_lt c 65)

-- a character that is the same as an ASCII character is ASCII, and has the same five low bits
pub same_ascii : (case : Bool) (c x : ℕ) → x < 128 → IsTrue (is_same case c x) → (c < 128) × (c % 32 ≡ x % 32)
same_ascii case c x low same =
    ⊎_elim
    (λ is. let e = eqb-true c x is in (subst (λ y. y < 128) (sym e) low, ap (λ y. y % 32) e))
    (λ both.
    let (ascii, small) = and_parts (not case && is_ascii c && is_ascii x) (to_ascii_lowercase c == to_ascii_lowercase x) both in
    let (first, second) = and_parts (not case && is_ascii c) (is_ascii x) ascii in (
      ltb-true c 128 (and_parts (not case) (is_ascii c) first).1,
      sym (lower_same c) ∙ ap (λ y. y % 32)
          (eqb-true (to_ascii_lowercase c) (to_ascii_lowercase x) small) ∙ lower_same x,
    ))
    (or_cases (c == x) (not case && is_ascii c && is_ascii x && to_ascii_lowercase c == to_ascii_lowercase x) same)

class_same : (a b x y : ℕ) → a % 32 ≡ x % 32 → b % 32 ≡ y % 32 → pair_class a b ≡ pair_class x y
class_same a b x y first second = ap₂ (λ m n. (m * 13 + n * 3) % 128) first second

-- a token that is a literal is one of the list
pub literal_within : (tokens : List Token) (k y : ℕ) → get_or tokens k AnyChar ≡ Literal y → k < length tokens
literal_within [] k y is = absurd (cc)
literal_within (t ∷ ts) zero y is = omega arith
literal_within (t ∷ ts) (suc k) y is = omega (arith, literal_within ts k y is)

-- one character that is the same as an ASCII character
record One (here : Text) (y : ℕ) : Type 0 where
  b : ℕ
  is : encode_utf8_all here ≡ b ∷ []
  class : pair_class 0 b ≡ pair_class 0 y

one_of : (case : Bool) (here : Text) (y : ℕ) → y < 128 → SameTexts case here (y ∷ []) → One here y
one_of case [] y low (lengths, each) = absurd (omega arith)
one_of case (b ∷ []) y low (lengths, each) =
    let same = same_ascii case b y low (each 0 (omega arith)) in
    record { b = b; is = ap (λ p. p ++ []) (encode_ascii b same.0); class = class_same 0 b 0 y refl same.1 }
one_of case (b ∷ c ∷ cs) y low (lengths, each) = absurd (omega arith)

-- two such characters
record Two (here : Text) (x y : ℕ) : Type 0 where
  a : ℕ
  b : ℕ
  is : encode_utf8_all here ≡ a ∷ b ∷ []
  class : pair_class a b ≡ pair_class x y

two_of : (case : Bool) (here : Text) (x y : ℕ) → x < 128 → y < 128 → SameTexts case here (x ∷ y ∷ []) → Two here x y
two_of case [] x y low_x low_y (lengths, each) = absurd (omega arith)
two_of case (a ∷ []) x y low_x low_y (lengths, each) = absurd (omega arith)
two_of case (a ∷ b ∷ []) x y low_x low_y (lengths, each) =
    let first = same_ascii case a x low_x (each 0 (omega arith)) in
    let second = same_ascii case b y low_y (each 1 (omega arith)) in
    record {
      a = a;
      b = b;
      is = ap₂ (λ p q. p ++ (q ++ [])) (encode_ascii a first.0) (encode_ascii b second.0);
      class = class_same a b x y first.1 second.1;
    }
two_of case (a ∷ b ∷ c ∷ cs) x y low_x low_y (lengths, each) = absurd (omega arith)

-- the bytes of a text that literals are in
split_bytes : (case : Bool) (front back : List Token) (plain : Text) (bytes : List ℕ) → IsUtf8 bytes →
    (stands : StandsIn case front plain back (chars bytes))
    → bytes ≡ encode_utf8_all stands.before ++ (encode_utf8_all stands.here ++ encode_utf8_all stands.after)
split_bytes case front back plain bytes utf8 stands =
    sym (encodes-chars bytes utf8) ∙ ap encode_utf8_all stands.split ∙ encodes-append stands.before (stands.here ++ stands.after)
    ∙ ap (λ xs. encode_utf8_all stands.before ++ xs) (encodes-append stands.here stands.after)

-- what a pair gives
record Pairs (bytes : List ℕ) (class : ℕ) (last : Type 0) : Type 0 where
  bits : Within (class_bit class) (text_bits bytes)
  ends : last → text_class bytes ≡ class

module _ (o : MatchOptions) (tokens : List Token) (bytes : List ℕ) (utf8 : IsUtf8 bytes) (match : TokensMatch o tokens (chars bytes)) where
  first_pair : (y : ℕ) → y < 128 → get_or tokens 0 AnyChar ≡ Literal y → Pairs bytes (pair_class 0 y) (length tokens ≡ 0 + 1)
  first_pair y low literal =
      let below = literal_within tokens 0 y literal in
      let back = drop 1 tokens in
      let split : tokens ≡ [] ++ (map Literal (y ∷ []) ++ back) = drop-cons tokens 0 AnyChar below ∙ ap (λ t. t ∷ back) literal in
      let stands : StandsIn o.case_sensitive [] (y ∷ []) back (chars bytes) =
      plain_tokens_stand o [] (y ∷ []) back (chars bytes) (subst (λ ts. TokensMatch o ts (chars bytes)) split match) in
      let one = one_of o.case_sensitive stands.here y low stands.same in
      let after = encode_utf8_all stands.after in
      let whole : bytes ≡ one.b ∷ after =
      split_bytes o.case_sensitive [] back (y ∷ []) bytes utf8 stands ∙ ap₂ (λ p q. encode_utf8_all p ++ (q ++ after))
      (stands.first refl) one.is in
      record {
        bits = subst (λ k. Within (class_bit k) (text_bits bytes)) one.class
            (subst (λ bs. Within (class_bit (pair_class 0 one.b)) (pair_bits 0 bs)) (sym whole) (first_within 0 one.b after));
        ends = λ end.
            let none : stands.after ≡ [] = stands.last (drop_all 1 tokens (omega (arith, end))) in
            ap text_class (whole ∙ ap (λ xs. one.b ∷ encode_utf8_all xs) none) ∙ one.class;
      }

  next_pair : (i x y : ℕ) → x < 128 → y < 128 → get_or tokens i AnyChar ≡ Literal x → get_or tokens (suc i) AnyChar ≡ Literal y
      → Pairs bytes (pair_class x y) (length tokens ≡ suc i + 1)
  next_pair i x y low_x low_y first second =
      let below = literal_within tokens (suc i) y second in
      let back = drop (suc (suc i)) tokens in
      let split : tokens ≡ take i tokens ++ (map Literal (x ∷ y ∷ []) ++ back) =
      sym (take-append-drop i tokens)
      ∙ ap (λ ts. take i tokens ++ ts) (drop-cons tokens i AnyChar (omega (arith, below)) ∙ ap₂ (λ t ts. t ∷ ts) first
      (drop-cons tokens (suc i) AnyChar below ∙ ap (λ t. t ∷ back) second)) in
      let stands : StandsIn o.case_sensitive (take i tokens) (x ∷ y ∷ []) back (chars bytes) =
      plain_tokens_stand o (take i tokens) (x ∷ y ∷ []) back (chars bytes) (subst (λ ts. TokensMatch o ts (chars bytes)) split match) in
      let two = two_of o.case_sensitive stands.here x y low_x low_y stands.same in
      let before = encode_utf8_all stands.before in
      let after = encode_utf8_all stands.after in
      let whole : bytes ≡ before ++ (two.a ∷ two.b ∷ after) =
      split_bytes o.case_sensitive (take i tokens) back (x ∷ y ∷ []) bytes utf8 stands ∙ ap (λ q. before ++ (q ++ after)) two.is in
      record {
        bits = subst (λ k. Within (class_bit k) (text_bits bytes)) two.class
            (subst (λ bs. Within (class_bit (pair_class two.a two.b)) (pair_bits 0 bs)) (sym whole)
            (pair_within 0 before two.a two.b after));
        ends = λ end.
            let none : stands.after ≡ [] = stands.last (drop_all (suc (suc i)) tokens (omega (arith, end))) in
            ap text_class (whole ∙ ap (λ xs. before ++ (two.a ∷ two.b ∷ encode_utf8_all xs)) none) ∙ class_of_last 0 0
            before two.a two.b ∙ two.class;
      }

-- the pair of a byte 0 and the first byte
pub IsPairAt-first : (pattern : Text) (y : ℕ) → pair_class 0 y < 128 → y < 128 → HasLiteral (chars pattern) 0 y
    → IsPairAt pattern 0 (pair_class 0 y)
unfolding HasBits HasClass HasLiteral HasCount
IsPairAt-first pattern y small low literal = record {
  small = small;
  bits = λ o bytes utf8 matches.
      let has = tokens_of_match o (chars pattern) (chars bytes) matches in
      (first_pair o has.0 bytes utf8 has.2 y low (literal has.0 has.1)).bits;
  last = λ count o bytes utf8 matches.
      let has = tokens_of_match o (chars pattern) (chars bytes) matches in
      (first_pair o has.0 bytes utf8 has.2 y low (literal has.0 has.1)).ends (count has.0 has.1);
}

-- the pair of two literals
pub IsPairAt-next : (pattern : Text) (i x y : ℕ) → pair_class x y < 128 → x < 128 → y < 128 → HasLiteral
    (chars pattern) i x → HasLiteral (chars pattern) (suc i) y
    → IsPairAt pattern (suc i) (pair_class x y)
unfolding HasBits HasClass HasLiteral HasCount
IsPairAt-next pattern i x y small low_x low_y first second = record {
  small = small;
  bits = λ o bytes utf8 matches.
      let has = tokens_of_match o (chars pattern) (chars bytes) matches in
      (next_pair o has.0 bytes utf8 has.2 i x y low_x low_y (first has.0 has.1) (second has.0 has.1)).bits;
  last = λ count o bytes utf8 matches.
      let has = tokens_of_match o (chars pattern) (chars bytes) matches in
      (next_pair o has.0 bytes utf8 has.2 i x y low_x low_y (first has.0 has.1) (second has.0 has.1)).ends (count has.0 has.1);
}
