use Rattle.std.proofs.Common.{◌≡◌, ℕ, ◌+◌, ◌-◌, ◌<◌, ◌≤◌, ◌∙◌, Bool, true, false, List, ◌++◌, length, get_or}
use Rattle.std.proofs.Common.{encode_utf8, chars, sym, ap, subst, arith}
use Rattle.std.proofs.lemmas.List.{get_or_read, nil_from_length}
use Rattle.std.proofs.lemmas.Str.{chars-nil}
use Rattle.std.specs.Str.{IsUtf8}
use Rattle.std.specs.Str.Iter.{chars_rest}
use Rattle.glob_pattern.specs.Grammar.Tokens.{Token, shape_of}
use Rattle.glob_pattern.specs.Matching.Taking.{takes}
use Rattle.glob_pattern.specs.Matching.Texts.{TokensMatch}
use Rattle.glob_pattern.specs.Private.Ends.{IsEnds}
use Rattle.glob_pattern.specs.Private.Parts.{Leaves}
use Rattle.glob_pattern.specs.Private.TextTable.{opens_within}
use Rattle.glob_pattern.specs.declared.matcher.Shape.TheVariants.{One}
use Rattle.glob_pattern.specs.declared.options.MatchOptions.{MatchOptions}
use Rattle.glob_pattern.specs.declared.pattern.ends.Ends.{Ends}
use Rattle.glob_pattern.specs.declared.token.Token.TheVariants.{AnyChar}
use Rattle.glob_pattern.proofs.MatchingLemmas.EndBytes.{chars_past_last}
use Rattle.glob_pattern.proofs.MatchingLemmas.Ends.{Leaves-before, refuses-before, lacks-before}
use Rattle.glob_pattern.proofs.MatchingLemmas.Stripped.{fits, one-last}
use Rattle.glob_pattern.proofs.pattern.ends.Ends.take_last.Goals as goal

-- token number end - 1 is the next
module _ (o : MatchOptions) (tokens : List Token) (ends : Ends) (are : IsEnds tokens ends) (end : ℕ)
    (within : end ≤ length tokens - ends.suffix.count) (test : length tokens - ends.trail < end)
    (part : List ℕ) (opening : Bool) where
  next : end ≡ end - 1 + 1
  next = omega (arith, test)

  from : ends.lead ≤ end - 1
  from = omega (arith, fits tokens ends are, test)

  below : end - 1 < length tokens
  below = omega (arith, within, test)

  one : shape_of (get_or tokens (end - 1) AnyChar) ≡ One
  one = one-last tokens ends are (end - 1) (omega (arith, test)) below

  -- it takes the last character
  taken : (t : Token) → t ≡ get_or tokens (end - 1) AnyChar → (c : ℕ) (rest : List ℕ) → takes o (opens_within opening
      (chars rest) (length (chars rest))) c t ≡ true
      → IsUtf8 part → IsUtf8 rest → part ≡ rest ++ encode_utf8 c
      → (text : List ℕ) → Leaves o tokens text ends.lead end part opening → Leaves o tokens text ends.lead (end - 1) rest opening
  taken t at c rest took u v e = λ text left.
      Leaves-before o tokens text ends.lead (end - 1) end next from below one part opening left rest c v (chars_past_last part rest c u v e)
      (subst (λ s. takes o (opens_within opening (chars rest) (length (chars rest))) c s ≡ true) at took)

  -- it does not take the last character
  refused : (t : Token) → t ≡ get_or tokens (end - 1) AnyChar → (c : ℕ) (rest : List ℕ) → takes o (opens_within opening
      (chars rest) (length (chars rest))) c t ≡ false
      → IsUtf8 part → IsUtf8 rest → part ≡ rest ++ encode_utf8 c
      → (text : List ℕ) → Leaves o tokens text ends.lead end part opening → TokensMatch o tokens (chars text) → ⊥
  refused t at c rest none u v e = λ text left.
      refuses-before o tokens text ends.lead (end - 1) end next from below one part opening left rest c (chars_past_last part rest c u v e)
      (subst (λ s. takes o (opens_within opening (chars rest) (length (chars rest))) c s ≡ false) at none)

  -- there is no last character
  lacked : length part ≡ 0 → (text : List ℕ) → Leaves o tokens text ends.lead end part opening → TokensMatch o tokens (chars text) → ⊥
  lacked none = λ text left.
      lacks-before o tokens text ends.lead (end - 1) end next from below one part opening left
      (ap chars (nil_from_length part none) ∙ chars-nil)

pub overflow_sub-start : goal.overflow_sub-start
overflow_sub-start g c = omega (arith, fits c.args.tokens.now c.args.self.now c.requires.ends)

pub overflow_sub-end : goal.overflow_sub-end
overflow_sub-end g c = omega (arith, fits c.args.tokens.now c.args.self.now c.requires.ends, c.requires.ends.few_last)

pub loop-end-init : goal.loop-end-init
loop-end-init g c = (
  c.requires.utf8,
  record {
    same = sym c.chars-rest.ensures.rest;
    low = omega (arith, c.requires.ends.few_last);
    within = omega arith;
    utf8 = rw c.chars-rest.ensures.rest c.requires.utf8;
    taken = rw c.chars-rest.ensures.rest (λ text left. left);
  },
)

pub loop-end-preserved : goal.loop-end-preserved
loop-end-preserved g c =
    let (_, i) = c.loop-end.invariant in
    let d = c.in_ok-next_back.field-0 in
    let t = c.index-tokens-end.result in
    let rest = chars_rest c.next_back.new.self in
    let at = get_or_read c.args.tokens.now (c.loop-end.end - 1) t (omega (arith, i.within, c.loop-end-test.true))
    c.index-tokens-end.is AnyChar in
    let v = subst IsUtf8 c.as_str-text.ensures c.as_str-text.utf8 in (
      c.as_str-text.utf8,
      record {
        same = c.as_str-text.ensures;
        low = omega (arith, c.loop-end-test.true);
        within = omega (arith, i.within);
        utf8 = v;
        taken = λ text before. taken c.args.options c.args.tokens.now c.args.self.now c.requires.ends c.loop-end.end
            i.within c.loop-end-test.true (chars_rest c.loop-end.rest) c.args.part.opening
            t at d rest (c.takes_any.ensures c.if-takes_any.true (opens_within c.args.part.opening (chars rest)
            (length (chars rest))) d) i.utf8 v c.in_ok-next_back.ensures.steps text (i.taken text before);
      },
    )

pub returns-in_err-next_back : goal.returns-in_err-next_back
returns-in_err-next_back g c = λ text before.
    let (_, i) = c.loop-end.invariant in
    rw c.from_residual.ensures
    (lacked c.args.options c.args.tokens.now c.args.self.now c.requires.ends c.loop-end.end i.within
    c.loop-end-test.true (chars_rest c.loop-end.rest) c.args.part.opening c.in_err-next_back.ensures.steps.0 text
    (i.taken text before))

pub loop-end-2-init : goal.loop-end-2-init
loop-end-2-init g c = c.loop-end.invariant

pub loop-end-2-preserved : goal.loop-end-2-preserved
loop-end-2-preserved g c =
    let (_, i) = c.loop-end-2.invariant in
    let d = c.in_ok-c.c in
    let t = c.index-tokens-end-in-loop-end-2.result in
    let rest = chars_rest c.next_back-in-loop-end-2.new.self in
    let at = get_or_read c.args.tokens.now (c.loop-end-2.end - 1) t (omega (arith, i.within, c.loop-end-2-test.true))
    c.index-tokens-end-in-loop-end-2.is AnyChar in
    let left = c.as_str-text-in-loop-end-2 in
    let took = rw (c.opens_after-opening.ensures, left.ensures) at (sym c.takes.ensures ∙ c.if-not-takes.false) in
    let v = subst IsUtf8 left.ensures left.utf8 in (
      left.utf8,
      record {
        same = left.ensures;
        low = omega (arith, c.loop-end-2-test.true);
        within = omega (arith, i.within);
        utf8 = v;
        taken = λ text before. taken c.args.options c.args.tokens.now c.args.self.now c.requires.ends c.loop-end-2.end
            i.within c.loop-end-2-test.true (chars_rest c.loop-end-2.rest) c.args.part.opening
            t at d rest took i.utf8 v c.in_ok-c.ensures.steps text (i.taken text before);
      },
    )

pub returns-in_err-c : goal.returns-in_err-c
returns-in_err-c g c = λ text before.
    let (_, i) = c.loop-end-2.invariant in
    rw c.from_residual-in_err-c.ensures
    (lacked c.args.options c.args.tokens.now c.args.self.now c.requires.ends c.loop-end-2.end i.within
    c.loop-end-2-test.true (chars_rest c.loop-end-2.rest) c.args.part.opening c.in_err-c.ensures.steps.0 text
    (i.taken text before))

pub returns-then-not-takes : goal.returns-then-not-takes
returns-then-not-takes g c = λ text before.
    let (_, i) = c.loop-end-2.invariant in
    let t = c.index-tokens-end-in-loop-end-2.result in
    let at = get_or_read c.args.tokens.now (c.loop-end-2.end - 1) t (omega (arith, i.within, c.loop-end-2-test.true))
    c.index-tokens-end-in-loop-end-2.is AnyChar in
    let left = c.as_str-text-in-loop-end-2 in
    let none = rw (c.opens_after-opening.ensures, left.ensures) at (sym c.takes.ensures ∙ c.if-not-takes.true) in
    refused c.args.options c.args.tokens.now c.args.self.now c.requires.ends c.loop-end-2.end i.within
    c.loop-end-2-test.true (chars_rest c.loop-end-2.rest) c.args.part.opening
    t at c.in_ok-c.c (chars_rest c.next_back-in-loop-end-2.new.self) none i.utf8 (subst IsUtf8 left.ensures left.utf8)
    c.in_ok-c.ensures.steps text (i.taken text before)

pub returns : goal.returns
returns g c = λ text before.
    let (_, i) = c.loop-end-2.invariant in
    let all : c.loop-end-2.end ≡ length c.args.tokens.now - c.args.self.now.trail = omega (arith, i.low, c.loop-end-2-test.false) in
    rw (sym i.same) at
    (subst (λ n. Leaves c.args.options c.args.tokens.now text c.args.self.now.lead n (chars_rest c.loop-end-2.rest)
    c.args.part.opening) all (i.taken text before))
