-- Components as they are kept: literal ones in lower case, if case does not count.
use Rattle.std.proofs.Common.{◌≡◌, ◌↔◌, ℕ, ◌≤◌, ◌≢◌, suc, ◌+◌, ◌<◌, Bool, true, false, cond, ◌&&◌, ◌||◌, ⊎_elim, List}
use Rattle.std.proofs.Common.{[], ◌∷◌, length, map, get_or, refl, ap, ap₂, sym, subst, ◌∙◌, arith}
use Rattle.std.specs.Bool.{one_answer}
use Rattle.std.specs.Char.{to_ascii_lowercase}
use Rattle.std.specs.List.{All, list_any}
use Rattle.std.specs.Str.{chars, IsUtf8}
use mathlib.Core.Bool.{or-false}
use lib.Utf8.{encode, encodes}
use Rattle.std.proofs.lemmas.Bool.{both_ways, cond-true, cond-false, or_from, or_left, or_right, ne_eqb, cases_lt, false_from_ne_true}
use Rattle.std.proofs.lemmas.List.{append-nil}
use Rattle.std.proofs.lemmas.List.Elements.{All-head, All-tail}
use Rattle.std.proofs.lemmas.List.Folds.{list_any-append}
use Rattle.std.proofs.lemmas.Slice.Eq.{bytes_eq-Decides}
use Rattle.std.proofs.lemmas.Str.{encode_ascii, encodes-chars, inside_one}
use Rattle.std.proofs.lemmas.Str.Ascii.{lowercase_is}
use Rattle.glob_text.specs.Text.{Text}
use Rattle.glob_pattern.specs.Computing.Reading.{units_from}
use Rattle.glob_pattern.specs.Grammar.Characters.{star, question_mark, open_bracket, is_wildcard}
use Rattle.glob_pattern.specs.Grammar.Units.{IsAccepted}
use Rattle.glob_pattern.specs.Matching.Options.{new_options}
use Rattle.glob_pattern.specs.declared.token.Token.TheVariants.{AnySequence, Recursive}
use Rattle.glob_pattern.specs.Matching.Components.{is_open, is_recursive}
use Rattle.glob_pattern.specs.Matching.Texts.{Matches}
use Rattle.glob_pattern.specs.Computing.Deciding.{is_match}
use Rattle.glob_pattern.specs.declared.options.MatchOptions.{MatchOptions}
use Rattle.glob_pattern.specs.Laws.{SameTexts}
use Rattle.glob_pattern.proofs.GrammarLemmas.Accepted.{one_reading}
use Rattle.glob_pattern.proofs.MatchingLemmas.Computed.{accepted_by_reading, match_decided}
use Rattle.glob_pattern.proofs.MatchingLemmas.Matched.{accepted_by_match}
use Rattle.glob_pattern.proofs.MatchingLemmas.PlainPatterns.{plain_matches_same}
use Rattle.glob_tree.specs.Content.{Key}
use Rattle.glob_search.specs.Searching.{takes, ends_recursive}
use Rattle.glob_search.specs.Private.Nodes.{folded, key_of, recursive}
use Rattle.glob_search.proofs.BeginningLemmas.SameTexts.{lowered, SameTexts-folded, folded-SameTexts, SameTexts-lower, lower-lower}

-- a test that no character from 128 on passes
abbrev IsOfAscii : (ℕ → Bool) → Type 0
IsOfAscii p = (c : ℕ) → 128 ≤ c → p c ≡ false

none_high : (p : ℕ → Bool) → IsOfAscii p → (xs : Text) → ((k : ℕ) → k < length xs → 128 ≤ get_or xs k 0) → list_any p xs ≡ false
none_high p low [] high = refl
none_high p low (x ∷ xs) high = or_from (p x) (list_any p xs) (low x (high 0 (omega arith))) (none_high p low xs
    (λ k l. high (suc k) (omega (arith, l))))

any-encode : (p : ℕ → Bool) → IsOfAscii p → (c : ℕ) → list_any p (encode c) ≡ p c
any-encode p low c = ⊎_elim ascii wide (cases_lt c 128)
  where
    ascii : c < 128 → list_any p (encode c) ≡ p c
    ascii l = ap (list_any p) (encode_ascii c l) ∙ or-false (p c)

    wide : 128 ≤ c → list_any p (encode c) ≡ p c
    wide l = none_high p low (encode c) (λ k in'. ⊎_elim
        (λ small. absurd (omega (arith, inside_one c [] (encode c) k (sym (append-nil (encode c))) in' small)))
        (λ big. big) (cases_lt (get_or (encode c) k 0) 128)) ∙ sym (low c l)

any-encodes : (p : ℕ → Bool) → IsOfAscii p → (cs : Text) → list_any p (encodes cs) ≡ list_any p cs
any-encodes p low [] = refl
any-encodes p low (c ∷ cs) = list_any-append p (encode c) (encodes cs) ∙ ap₂ (λ x y. x || y) (any-encode p low c) (any-encodes p low cs)

wildcard-ascii : IsOfAscii is_wildcard
wildcard-ascii c h = or_from _ _ (or_from _ _ (ne_eqb c question_mark (λ e. omega arith)) (ne_eqb c star
    (λ e. omega arith))) (ne_eqb c open_bracket (λ e. omega arith))

-- a text has wildcards by its bytes exactly when it has by its characters
wild-chars : (t : Text) → IsUtf8 t → list_any is_wildcard (chars t) ≡ list_any is_wildcard t
wild-chars t utf8 = sym (any-encodes is_wildcard wildcard-ascii (chars t)) ∙ ap (list_any is_wildcard) (encodes-chars t utf8)

pub recursive_is : (t : Text) → is_recursive t ≡ true → t ≡ recursive
recursive_is t h = (bytes_eq-Decides t (star ∷ star ∷ [])).0 h

pub literal_not_recursive : (t : Text) → list_any is_wildcard t ≡ false → is_recursive t ≡ false
literal_not_recursive t e = false_from_ne_true (is_recursive t) (λ r. both_ways (list_any is_wildcard t) e
    (ap (list_any is_wildcard) (recursive_is t r)))

-- the pattern of a literal matches the texts that are the same
literal-same : (o : MatchOptions) (t : Text) → IsUtf8 t → list_any is_wildcard t ≡ false → (cs : Text) → Matches o
    (chars t) cs ↔ SameTexts o.case_sensitive cs (chars t)
literal-same o t utf8 literal cs = plain_matches_same one_reading o (chars t) cs (wild-chars t utf8 ∙ literal)

match-true : (o : MatchOptions) (pattern text : Text) → is_match o pattern text ≡ true → Matches o pattern text
match-true o pattern text h = (match_decided o pattern text).0 h

-- a literal matches the names that are the same once folded
pub literal-folded : (o : MatchOptions) (t n : Text) → IsUtf8 t → IsUtf8 n → list_any is_wildcard t ≡ false
    → is_match o (chars t) (chars n) ≡ true
    → folded o.case_sensitive n ≡ folded o.case_sensitive t
literal-folded o t n u v literal h = SameTexts-folded o.case_sensitive n t v u ((literal-same o t u literal
    (chars n)).0 (match-true o (chars t) (chars n) h))

pub folded-literal : (o : MatchOptions) (t n : Text) → IsUtf8 t → IsUtf8 n → list_any is_wildcard t ≡ false
    → folded o.case_sensitive n ≡ folded o.case_sensitive t
    → is_match o (chars t) (chars n) ≡ true
folded-literal o t n u v literal e =
    (match_decided o (chars t) (chars n)).1 ((literal-same o t u literal (chars n)).1 (folded-SameTexts o.case_sensitive n t v u e))

-- a literal matches itself, so it is accepted
pub literal-accepted : (t : Text) → IsUtf8 t → list_any is_wildcard t ≡ false → IsAccepted (chars t)
literal-accepted t utf8 literal = accepted_by_match new_options (chars t) (chars t)
    (match-true new_options (chars t) (chars t) (folded-literal new_options t t utf8 utf8 literal refl))

-- `**` is accepted, and so is `*`
pub stars-accepted : IsAccepted (chars recursive)
unfolding chars units_from
stars-accepted = accepted_by_reading (chars recursive) (Recursive ∷ []) refl

pub star-accepted : IsAccepted (chars (star ∷ []))
unfolding chars units_from
star-accepted = accepted_by_reading (chars (star ∷ [])) (AnySequence ∷ []) refl

lower-wild : (c : ℕ) → is_wildcard (to_ascii_lowercase c) ≡ is_wildcard c
lower-wild c = ⊎_elim (λ low. ap is_wildcard ((lowercase_is c).1 low)) (λ from. ⊎_elim (λ above. ap is_wildcard
    ((lowercase_is c).2 above)) (λ upto. upper from upto) (cases_lt 90 c)) (cases_lt c 65)
  where
    not-wild : (d : ℕ) → 63 < d → d ≢ open_bracket → is_wildcard d ≡ false
    not-wild d high other = or_from _ _ (or_from _ _ (ne_eqb d question_mark (λ e. omega arith)) (ne_eqb d star
        (λ e. omega arith))) (ne_eqb d open_bracket other)

    upper : 65 ≤ c → c ≤ 90 → is_wildcard (to_ascii_lowercase c) ≡ is_wildcard c
    upper from upto =
        ap is_wildcard ((lowercase_is c).0 (from, upto)) ∙ not-wild (c + 32) (omega arith) (λ e. omega arith) ∙ sym
        (not-wild c (omega arith) (λ e. omega arith))

lower-any : (t : Text) → list_any is_wildcard (map to_ascii_lowercase t) ≡ list_any is_wildcard t
lower-any [] = refl
lower-any (c ∷ cs) = ap₂ (λ x y. x || y) (lower-wild c) (lower-any cs)

module _ (o : MatchOptions) where
  -- a key has wildcards exactly when its component does
  pub key-wild : (t : Text) → list_any is_wildcard (key_of o t) ≡ list_any is_wildcard t
  key-wild t = by_test (o.case_sensitive || list_any is_wildcard t)
    where
      by_test : (b : Bool) → list_any is_wildcard (cond b t (map to_ascii_lowercase t)) ≡ list_any is_wildcard t
      by_test true = refl
      by_test false = lower-any t

  pub key-itself : (t : Text) → list_any is_wildcard t ≡ true → key_of o t ≡ t
  key-itself t w = cond-true (o.case_sensitive || list_any is_wildcard t) t _ (or_right o.case_sensitive _ w)

  pub key-sensitive : (t : Text) → o.case_sensitive ≡ true → key_of o t ≡ t
  key-sensitive t c = cond-true (o.case_sensitive || list_any is_wildcard t) t _ (or_left o.case_sensitive _ c)

  pub key-recursive : (t : Text) → is_recursive (key_of o t) ≡ is_recursive t
  key-recursive t = by_test (list_any is_wildcard t) refl
    where
      by_test : (b : Bool) → list_any is_wildcard t ≡ b → is_recursive (key_of o t) ≡ is_recursive t
      by_test true w = ap is_recursive (key-itself t w)
      by_test false w = literal_not_recursive (key_of o t) (key-wild t ∙ w) ∙ sym (literal_not_recursive t w)

  -- a key matches the same names as its component
  pub key-match : (t : Text) → IsUtf8 t → (cs : Text) → is_match o (chars (key_of o t)) cs ≡ is_match o (chars t) cs
  key-match t utf8 cs = by_tests o.case_sensitive (list_any is_wildcard t) refl refl
    where
      by_tests : (c w : Bool) → o.case_sensitive ≡ c → list_any is_wildcard t ≡ w → is_match o (chars (key_of o t)) cs
          ≡ is_match o (chars t) cs
      by_tests true w sensitive wild = ap (λ u. is_match o (chars u) cs) (key-sensitive t sensitive)
      by_tests false true sensitive wild = ap (λ u. is_match o (chars u) cs) (key-itself t wild)
      by_tests false false sensitive wild =
          let key : key_of o t ≡ map to_ascii_lowercase t = cond-false (o.case_sensitive || list_any is_wildcard t) t _
          (or_from o.case_sensitive _ sensitive wild) in
          let lower = SameTexts-lower cs t utf8 in
          let plain = literal-same o t utf8 wild cs in
          let small = literal-same o (map to_ascii_lowercase t) (lowered t utf8) (lower-any t ∙ wild) cs in
          ap (λ u. is_match o (chars u) cs) key
          ∙ one_answer (is_match o (chars (map to_ascii_lowercase t)) cs) (is_match o (chars t) cs)
          (match_decided o (chars (map to_ascii_lowercase t)) cs) (
            (λ h. small.1 (subst (λ c. SameTexts c cs (chars (map to_ascii_lowercase t))) (sym sensitive)
                (lower.0 (subst (λ c. SameTexts c cs (chars t)) sensitive (plain.0 (match-true o (chars t) cs h)))))),
            (λ m. (match_decided o (chars t) cs).1 (plain.1 (subst (λ c. SameTexts c cs (chars t)) (sym sensitive)
                (lower.1 (subst (λ c. SameTexts c cs (chars (map to_ascii_lowercase t))) sensitive (small.0 m)))))),
          )

  -- so keys take the same names
  pub keys-take : (ts : List Text) → All IsUtf8 ts → (ns : Key) → takes o (map (key_of o) ts) ns ≡ takes o ts ns
  keys-take [] u [] = refl
  keys-take [] u (n ∷ ns) = refl
  keys-take (t ∷ ts) u [] = ap₂ (λ x y. x && y) (key-recursive t) (keys-take ts (All-tail IsUtf8 t ts u) [])
  keys-take (t ∷ ts) u (n ∷ ns) =
      let rest = All-tail IsUtf8 t ts u in
      λ i. cond (key-recursive t i)
      (keys-take ts rest (n ∷ ns) i || (is_open o n && keys-take (t ∷ ts) u ns i))
      (key-match t (All-head IsUtf8 t ts u) (chars n) i && keys-take ts rest ns i)

  pub keys-end : (ts : List Text) → ends_recursive (map (key_of o) ts) ≡ ends_recursive ts
  keys-end [] = refl
  keys-end (t ∷ []) = key-recursive t
  keys-end (t ∷ u ∷ us) = keys-end (u ∷ us)

  -- the key of a key is itself
  pub key-key : (t : Text) → key_of o (key_of o t) ≡ key_of o t
  key-key t = by_tests o.case_sensitive (list_any is_wildcard t) refl refl
    where
      by_tests : (c w : Bool) → o.case_sensitive ≡ c → list_any is_wildcard t ≡ w → key_of o (key_of o t) ≡ key_of o t
      by_tests true w sensitive wild = key-sensitive (key_of o t) sensitive
      by_tests false true sensitive wild = key-itself (key_of o t) (key-wild t ∙ wild)
      by_tests false false sensitive wild =
          let key : key_of o t ≡ map to_ascii_lowercase t = cond-false (o.case_sensitive || list_any is_wildcard t) t _
          (or_from o.case_sensitive _ sensitive wild) in
          cond-false (o.case_sensitive || list_any is_wildcard (key_of o t)) _ _ (or_from o.case_sensitive _ sensitive (key-wild t ∙ wild))
          ∙ ap (map to_ascii_lowercase) key ∙ lower-lower t ∙ sym key

  -- a literal component is compared by the text that is kept of it
  pub literal-key : (t : Text) → list_any is_wildcard t ≡ false → key_of o t ≡ folded o.case_sensitive t
  literal-key t wild = by_test o.case_sensitive refl
    where
      by_test : (c : Bool) → o.case_sensitive ≡ c → key_of o t ≡ folded c t
      by_test true sensitive = key-sensitive t sensitive
      by_test false sensitive = cond-false (o.case_sensitive || list_any is_wildcard t) t _ (or_from o.case_sensitive _ sensitive wild)
