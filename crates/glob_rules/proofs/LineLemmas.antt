-- Lines, and what is read of them.
use Rattle.std.proofs.Common.{◌≡◌, ℕ, ◌+◌, ◌<◌, Bool, true, false, cond, ◌&&◌, ltb, eqb, List, [], ◌∷◌}
use Rattle.std.proofs.Common.{◌++◌, length, get_or, take, drop, drop-cons, Some, None, Result, Ok, Err, is_ok, IfErr, IsErrAnd}
use Rattle.std.proofs.Common.{inl, inr, refl, sym, ap, subst, ◌∙◌, append_assoc, arith}
use Rattle.std.specs.List.{filter, fold, position, position_or_len, before_first}
use Rattle.std.proofs.lemmas.List.{append-nil, get_or_default, length_push, take_all}
use Rattle.std.proofs.lemmas.List.Elements.{filter_more}
use Rattle.std.proofs.lemmas.List.Quantifiers.{position-Some}
use Rattle.std.proofs.lemmas.List.Sums.{fold_more, position_or_len_is}
use Rattle.std.proofs.lemmas.Bool.{and_parts, cases_Bool, cond-true, eqb-true, ltb-false, ltb-true}
use Rattle.std.proofs.lemmas.Option.{none-some}
use Rattle.std.proofs.lemmas.Str.{IsCharBoundary-past_char, IsUtf8-from_is_utf8, is_utf8-from_IsUtf8}
use Rattle.std.specs.Str.{chars, IsUtf8, is_utf8, IsCharBoundary}
use lib.Utf8.{encode}
use Rattle.glob_text.specs.Text.{Text, has}
use Rattle.glob_pattern.specs.Computing.Reading.{reading_of}
use Rattle.glob_pattern.specs.Grammar.Faults.{Fault, IsFault}
use Rattle.glob_pattern.specs.Grammar.Units.{IsAccepted}
use Rattle.glob_pattern.proofs.CallerLemmas.{tokens_of_accepted}
use Rattle.glob_pattern.proofs.GrammarLemmas.Accepted.{reading_of-Ok, reading_of-Err}
use Rattle.glob_rules.specs.Lines.{Line, line_of}
use Rattle.glob_rules.specs.Lists.{Ignores, RefusesText, TextRead, begins_with_mark, is_pattern, lines_of, next_line}
use Rattle.glob_rules.specs.Lists.{none_read, read_line, refusals_of, settled, text_read, with_outcome}
use Rattle.glob_rules.specs.declared.error.RuleRefusal.{RuleRefusal}
use Rattle.glob_rules.specs.declared.error.RuleRefusal.TheVariants as refusals
use Rattle.glob_rules.specs.declared.reading.Outcome.{Outcome}
use Rattle.glob_rules.specs.declared.reading.Outcome.TheVariants.{Nothing, Named, Refused}

and_none : (b : Bool) → (b && false) ≡ false
and_none true = refl
and_none false = refl

-- a translation that is accepted is a pattern
pub is_pattern-accepted : (glob text : Text) → text ≡ glob → IsUtf8 glob → IsAccepted (chars text) → is_pattern glob ≡ true
unfolding is_pattern
is_pattern-accepted glob text same utf8 accepted =
    let (tokens, has) = tokens_of_accepted (chars text) accepted in
    let read : is_ok (reading_of (chars glob)) ≡ true =
    ap is_ok (ap (λ t. reading_of (chars t)) (sym same) ∙ (reading_of-Ok (chars text) tokens).1 has) in
    ap (λ b. b && is_ok (reading_of (chars glob))) (is_utf8-from_IsUtf8 glob utf8) ∙ read

-- a translation with a fault is not a pattern
pub is_pattern-fault : (glob text : Text) (fault : Fault) → text ≡ glob → IsFault (chars text) fault → is_pattern glob ≡ false
unfolding is_pattern
is_pattern-fault glob text fault same is =
    let read : is_ok (reading_of (chars glob)) ≡ false =
    ap is_ok (ap (λ t. reading_of (chars t)) (sym same) ∙ (reading_of-Err (chars text) fault).1 is) in
    ap (λ b. is_utf8 glob && b) read ∙ and_none (is_utf8 glob)

-- a translation that is not UTF-8 is not a pattern
pub is_pattern-none : (glob : Text) → ¬ (IsUtf8 glob) → is_pattern glob ≡ false
unfolding is_pattern
is_pattern-none glob none = by_test (is_utf8 glob) refl
  where
    by_test : (b : Bool) → is_utf8 glob ≡ b → (b && is_ok (reading_of (chars glob))) ≡ false
    by_test true is = absurd (none (IsUtf8-from_is_utf8 glob is))
    by_test false is = refl

-- a character ends after a byte order mark
pub mark_boundary : (text : Text) → IsUtf8 text → begins_with_mark text ≡ true → IsCharBoundary text 3
unfolding encode
mark_boundary text utf8 h =
    let both = and_parts (has text 0 239 && has text 1 187) (has text 2 191) h in
    let front = and_parts (has text 0 239) (has text 1 187) both.0 in
    let first = and_parts (ltb 0 (length text)) (eqb (get_or text 0 0) 239) front.0 in
    let second = and_parts (ltb 1 (length text)) (eqb (get_or text 1 0) 187) front.1 in
    let third = and_parts (ltb 2 (length text)) (eqb (get_or text 2 0) 191) both.1 in
    let long : 2 < length text = ltb-true 2 (length text) third.0 in
    let one : get_or text 0 0 ≡ 239 = eqb-true (get_or text 0 0) 239 first.1 in
    let two : get_or text 1 0 ≡ 187 = eqb-true (get_or text 1 0) 187 second.1 in
    let three : get_or text 2 0 ≡ 191 = eqb-true (get_or text 2 0) 191 third.1 in
    let whole : text ≡ 239 ∷ 187 ∷ 191 ∷ drop 3 text =
    drop-cons text 0 0 (omega arith) ∙ ap (λ x. x ∷ drop 1 text) one
    ∙ ap (λ xs. 239 ∷ xs) (drop-cons text 1 0 (omega arith) ∙ ap (λ x. x ∷ drop 2 text) two)
    ∙ ap (λ xs. 239 ∷ 187 ∷ xs) (drop-cons text 2 0 long ∙ ap (λ x. x ∷ drop 3 text) three) in
    IsCharBoundary-past_char text (drop 3 text) 0 65279 (omega arith) utf8 whole

module _ (p : ℕ → Bool) (xs old now : List ℕ) (i : ℕ) (below : i < length xs) (so_far : now ≡ old ++ filter p (take i xs)) where
  -- one more character passes the test and is written
  pub filtered-yes : (new : List ℕ) → new ≡ now ++ get_or xs i 0 ∷ [] → p (get_or xs i 0) ≡ true → new ≡ old ++ filter p (take (i + 1) xs)
  filtered-yes new is holds =
      is ∙ ap (λ ys. ys ++ get_or xs i 0 ∷ []) so_far ∙ append_assoc old (filter p (take i xs)) (get_or xs i 0 ∷ [])
      ∙ ap (λ ys. old ++ ys) (ap (λ b. filter p (take i xs) ++ cond b (get_or xs i 0 ∷ []) []) (sym holds) ∙ sym
      (filter_more p xs i 0 below))

  -- one more character fails the test and is left out
  pub filtered-no : p (get_or xs i 0) ≡ false → now ≡ old ++ filter p (take (i + 1) xs)
  filtered-no lacks =
      so_far
      ∙ ap (λ ys. old ++ ys)
      (sym (append-nil (filter p (take i xs))) ∙ ap (λ b. filter p (take i xs) ++ cond b (get_or xs i 0 ∷ []) [])
      (sym lacks) ∙ sym (filter_more p xs i 0 below))

-- one more line is read
pub read-more : (text : Text) (n : ℕ) (line : Text) → n < length (lines_of text) → line ≡ get_or (lines_of text) n line
    → (old new : TextRead) → old ≡ fold read_line none_read (take n (lines_of text)) → new ≡ read_line old line
    → new ≡ fold read_line none_read (take (n + 1) (lines_of text))
read-more text n line below is old new so_far added =
    let the_line : line ≡ get_or (lines_of text) n [] = is ∙ get_or_default (lines_of text) n line [] below in
    added ∙ ap (λ o. read_line o line) so_far ∙ ap (read_line (fold read_line none_read (take n (lines_of text)))) the_line
    ∙ sym (fold_more read_line none_read (lines_of text) n [] below)

-- each rule has a pattern
with_outcome-lengths : (line : ℕ) (list : Ignores) (l : Line) (o : Outcome) → length list.rules ≡ length list.patterns
    → length (with_outcome line list l o).rules ≡ length (with_outcome line list l o).patterns
with_outcome-lengths line list l Nothing same = same
with_outcome-lengths line list l Named same = length_push list.rules _ ∙ ap (λ n. n + 1) same ∙ sym (length_push list.patterns l.glob)
with_outcome-lengths line list l (Refused reason) same = same

read_line-lengths : (read : TextRead) (text : Text) → length read.list.rules ≡ length read.list.patterns → length
    (read_line read text).list.rules ≡ length (read_line read text).list.patterns
unfolding read_line
read_line-lengths read text same =
    let l = line_of text in with_outcome-lengths (next_line read.list.lines) read.list l (settled l.glob l.outcome) same

fold-lengths : (lines : List Text) (read : TextRead) → length read.list.rules ≡ length read.list.patterns
    → length (fold read_line read lines).list.rules ≡ length (fold read_line read lines).list.patterns
fold-lengths [] read same = same
fold-lengths (l ∷ ls) read same = fold-lengths ls (read_line read l) (read_line-lengths read l same)

pub text_read-lengths : (text : Text) → length (text_read text).list.rules ≡ length (text_read text).list.patterns
unfolding text_read
text_read-lengths text = fold-lengths (lines_of text) none_read refl

-- the first refusal is the error of the text
pub RefusesText-first : (text : Text) (refusal : RuleRefusal) (later : List RuleRefusal)
    → refusals_of text ≡ refusal ∷ later → RefusesText text refusal
unfolding RefusesText
RefusesText-first text (refusals.Line n reason) later is = (later, is)
RefusesText-first text refusals.Memory later is = tt

-- a failed allocation is an error of any text
pub IfErr-memory : {T : Type 0} (r : Result T RuleRefusal) (text : Text) → IsErrAnd r (λ e. e ≡ refusals.Memory)
    → IfErr r (RefusesText text)
unfolding RefusesText
IfErr-memory (Ok x) text is = absurd is
IfErr-memory (Err e) text is = subst (RefusesText text) (sym is) tt

-- what is before the first place that passes, or all if none does
pub before_first-Some : (p : ℕ → Bool) (xs : List ℕ) (i : ℕ) → position p xs ≡ Some i → take i xs ≡ before_first p xs
before_first-Some p xs i found =
    let (within, is, before) = position-Some p xs i 0 found in
    sym (ap (λ n. take n xs) (position_or_len_is p xs i 0 (omega (arith, within)) before (λ _. is)))

pub before_first-None : (p : ℕ → Bool) (xs : List ℕ) → position p xs ≡ None → xs ≡ before_first p xs
before_first-None p xs none =
    elim (cases_Bool (ltb (position_or_len p xs) (length xs))) [
      | inl some ↦ absurd (none-some _ (sym none ∙ cond-true _ (Some (position_or_len p xs)) None some))
      | inr past ↦ sym (take_all (position_or_len p xs) xs (ltb-false (position_or_len p xs) (length xs) past))
    ]
