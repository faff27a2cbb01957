use Rattle.std.proofs.Common.{◌≡◌, ℕ, ◌+◌, ◌-◌, ◌<◌, ◌∙◌, Bool, true, false, List, ◌++◌, length, take, get_or}
use Rattle.std.proofs.Common.{encode_utf8, chars, ◌==◌, sym, ap, subst, arith}
use Rattle.std.proofs.lemmas.List.{get_or_read, get_or-take, nil_from_length}
use Rattle.std.proofs.lemmas.Str.{chars_past_char, chars-nil, IsUtf8-past_char}
use Rattle.std.specs.Str.{IsUtf8}
use Rattle.std.specs.Str.Iter.{chars_rest}
use Rattle.glob_text.specs.Characters.{slash}
use Rattle.glob_pattern.specs.Grammar.Tokens.{Token}
use Rattle.glob_pattern.specs.Matching.Taking.{takes}
use Rattle.glob_pattern.specs.Matching.Texts.{TokensMatch}
use Rattle.glob_pattern.specs.Private.Ends.{IsEnds}
use Rattle.glob_pattern.specs.Private.Parts.{Leaves}
use Rattle.glob_pattern.specs.declared.options.MatchOptions.{MatchOptions}
use Rattle.glob_pattern.specs.declared.pattern.ends.Ends.{Ends}
use Rattle.glob_pattern.specs.declared.token.Token.TheVariants.{AnyChar}
use Rattle.glob_pattern.proofs.MatchingLemmas.Ends.{Leaves-next, refuses-next, lacks-next}
use Rattle.glob_pattern.proofs.MatchingLemmas.Stripped.{count-lead, within-ends, one-first}
use Rattle.glob_pattern.proofs.pattern.ends.Ends.take_first.Goals as goal

-- token number k is the next
module _ (o : MatchOptions) (tokens : List Token) (ends : Ends) (are : IsEnds tokens ends) (k : ℕ) (test : k < length
    (take ends.lead tokens)) (part : List ℕ) (opening : Bool) where
  below : k < ends.lead
  below = omega (arith, count-lead tokens ends are, test)

  low : k < length tokens - ends.suffix.count
  low = omega (arith, below, within-ends tokens ends are)

  -- it takes the first character
  taken : (t : Token) → t ≡ get_or (take ends.lead tokens) k AnyChar → (c : ℕ) (rest : List ℕ) → takes o opening c t ≡
      true → IsUtf8 part → part ≡ encode_utf8 c ++ rest
      → (text : List ℕ) → Leaves o tokens text k (length tokens - ends.suffix.count) part opening → Leaves o tokens
      text (k + 1) (length tokens - ends.suffix.count) rest (c == slash)
  taken t at c rest took u e = λ text left.
      Leaves-next o tokens text k (length tokens - ends.suffix.count) low (omega arith) (one-first tokens ends are k
      below) part opening left c rest (IsUtf8-past_char part rest c u e) (chars_past_char part rest c u e)
      (subst (λ s. takes o opening c s ≡ true) (at ∙ get_or-take ends.lead tokens k AnyChar below) took)

  -- it does not take the first character
  refused : (t : Token) → t ≡ get_or (take ends.lead tokens) k AnyChar → (c : ℕ) (rest : List ℕ) → takes o opening c t
      ≡ false → IsUtf8 part → part ≡ encode_utf8 c ++ rest
      → (text : List ℕ) → Leaves o tokens text k (length tokens - ends.suffix.count) part opening → TokensMatch o tokens (chars text) → ⊥
  refused t at c rest none u e = λ text left.
      refuses-next o tokens text k (length tokens - ends.suffix.count) low (omega arith) (one-first tokens ends are k
      below) part opening left c rest (chars_past_char part rest c u e)
      (subst (λ s. takes o opening c s ≡ false) (at ∙ get_or-take ends.lead tokens k AnyChar below) none)

  -- there is no first character
  lacked : length part ≡ 0 → (text : List ℕ) → Leaves o tokens text k (length tokens - ends.suffix.count) part opening
      → TokensMatch o tokens (chars text) → ⊥
  lacked none = λ text left.
      lacks-next o tokens text k (length tokens - ends.suffix.count) low (omega arith) (one-first tokens ends are k
      below) part opening left (ap chars (nil_from_length part none) ∙ chars-nil)

pub slice_bounds-ones-end : goal.slice_bounds-ones-end
slice_bounds-ones-end g c = sym (count-lead c.args.tokens.now c.args.self.now c.requires.ends)

pub loop-count-init : goal.loop-count-init
loop-count-init g c =
    rw c.chars-rest.ensures.rest (record {
      low = omega arith;
      within = omega (arith, c.requires.ends.few_first, count-lead c.args.tokens.now c.args.self.now c.requires.ends);
      utf8 = c.requires.utf8;
      taken = λ text left. left;
    })

pub loop-count-preserved : goal.loop-count-preserved
loop-count-preserved g c =
    let i = c.loop-count.invariant in
    let d = c.in_ok-opening.field-0 in
    let t = c.index-ones-count.result in
    let at = get_or_read (take c.args.self.now.lead c.args.tokens.now) c.loop-count.count t c.loop-count-test.true
    c.index-ones-count.is AnyChar in
    let steps = c.in_ok-opening.ensures.steps.0 in
    record {
      low = omega (arith, i.low);
      within = omega (arith, c.loop-count-test.true);
      utf8 = IsUtf8-past_char (chars_rest c.loop-count.rest) (chars_rest c.next.new.self) d i.utf8 steps;
      taken = λ text before. taken c.args.options c.args.tokens.now c.args.self.now c.requires.ends c.loop-count.count
          c.loop-count-test.true (chars_rest c.loop-count.rest) c.loop-count.opening
          t at d (chars_rest c.next.new.self) (c.takes_any.ensures c.if-takes_any.true c.loop-count.opening d) i.utf8
          steps text (i.taken text before);
    }

pub returns-in_err-opening : goal.returns-in_err-opening
returns-in_err-opening g c = λ text before.
    rw c.from_residual.ensures
    (lacked c.args.options c.args.tokens.now c.args.self.now c.requires.ends c.loop-count.count c.loop-count-test.true
    (chars_rest c.loop-count.rest) c.loop-count.opening c.in_err-opening.ensures.steps.0.0 text
    (c.loop-count.invariant.taken text before))

pub loop-count-2-init : goal.loop-count-2-init
loop-count-2-init g c = c.loop-count.invariant

pub loop-count-2-preserved : goal.loop-count-2-preserved
loop-count-2-preserved g c =
    let i = c.loop-count-2.invariant in
    let d = c.in_ok-c.c in
    let t = c.index-ones-count-in-loop-count-2.result in
    let at = get_or_read (take c.args.self.now.lead c.args.tokens.now) c.loop-count-2.count t c.loop-count-2-test.true
    c.index-ones-count-in-loop-count-2.is AnyChar in
    let steps = c.in_ok-c.ensures.steps.0 in
    record {
      low = omega (arith, i.low);
      within = omega (arith, c.loop-count-2-test.true);
      utf8 = IsUtf8-past_char (chars_rest c.loop-count-2.rest) (chars_rest c.next-in-loop-count-2.new.self) d i.utf8 steps;
      taken = λ text before. taken c.args.options c.args.tokens.now c.args.self.now c.requires.ends
          c.loop-count-2.count c.loop-count-2-test.true (chars_rest c.loop-count-2.rest) c.loop-count-2.opening
          t at d (chars_rest c.next-in-loop-count-2.new.self) (sym c.takes.ensures ∙ c.if-not-takes.false) i.utf8 steps
          text (i.taken text before);
    }

pub returns-in_err-c : goal.returns-in_err-c
returns-in_err-c g c = λ text before.
    rw c.from_residual-in_err-c.ensures
    (lacked c.args.options c.args.tokens.now c.args.self.now c.requires.ends c.loop-count-2.count
    c.loop-count-2-test.true (chars_rest c.loop-count-2.rest) c.loop-count-2.opening c.in_err-c.ensures.steps.0.0
    text
    (c.loop-count-2.invariant.taken text before))

pub returns-then-not-takes : goal.returns-then-not-takes
returns-then-not-takes g c = λ text before.
    let i = c.loop-count-2.invariant in
    let t = c.index-ones-count-in-loop-count-2.result in
    let at = get_or_read (take c.args.self.now.lead c.args.tokens.now) c.loop-count-2.count t c.loop-count-2-test.true
    c.index-ones-count-in-loop-count-2.is AnyChar in
    refused c.args.options c.args.tokens.now c.args.self.now c.requires.ends c.loop-count-2.count
    c.loop-count-2-test.true (chars_rest c.loop-count-2.rest) c.loop-count-2.opening
    t at c.in_ok-c.c (chars_rest c.next-in-loop-count-2.new.self) (sym c.takes.ensures ∙ c.if-not-takes.true) i.utf8
    c.in_ok-c.ensures.steps.0 text (i.taken text before)

pub returns : goal.returns
returns g c = λ text before.
    let i = c.loop-count-2.invariant in
    let all : c.loop-count-2.count ≡ c.args.self.now.lead = omega (
      arith,
      i.within,
      count-lead c.args.tokens.now
          c.args.self.now c.requires.ends,
      c.loop-count-2-test.false,
    ) in
    rw c.as_str.ensures
    (subst (λ k. Leaves c.args.options c.args.tokens.now text k
    (length c.args.tokens.now - c.args.self.now.suffix.count) (chars_rest c.loop-count-2.rest)
    c.loop-count-2.opening) all (i.taken text before))
