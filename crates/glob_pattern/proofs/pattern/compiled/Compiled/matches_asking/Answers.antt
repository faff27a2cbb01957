use Rattle.std.proofs.Common.{◌≡◌, ℕ, ◌+◌, ◌-◌, ◌*◌, ◌≤◌, ◌∙◌, List, length, drop, chars, sym, ap, subst, suc, ⊎_elim, arith}
use Rattle.std.proofs.Math.Nat.{mul-suc, mul-le-mul_left, mul-le-mul_right}
use Rattle.std.proofs.lemmas.Bool.{cases_eq, eqb-true, eq-eqb, false≢true}
use Rattle.std.proofs.lemmas.List.{length-drop, length-map, nil_from_length}
use Rattle.std.proofs.lemmas.Str.{encodes-chars}
use Rattle.std.specs.Str.{IsUtf8, encode_utf8_all}
use Rattle.glob_pattern.specs.Grammar.Tokens.{Token, shape_of}
use Rattle.glob_pattern.specs.Matching.Texts.{TokensMatch}
use Rattle.glob_pattern.specs.Private.Ends.{IsEnds}
use Rattle.glob_pattern.specs.declared.pattern.ends.Ends.{Ends}
use Rattle.glob_pattern.proofs.Counts.{length-chars, product_fits}
use Rattle.glob_pattern.proofs.MatchingLemmas.Needles.{ContainsFolded-from_part}
use Rattle.glob_pattern.proofs.MatchingLemmas.Stripped.{SplitsPart-none, range-end}
use Rattle.glob_pattern.proofs.pattern.compiled.Compiled.matches_asking.Goals as goal

-- the questions of the ends: the first and the last token are asked twice if the text is not empty
few-asked : (tokens self : List Token) (ends : Ends) (bytes : List ℕ) (again : ℕ) → tokens ≡ self → IsEnds tokens ends → IsUtf8 bytes
    → again ≤ ends.lead + ends.trail → again ≤ length bytes + length bytes
    → ends.lead + ends.trail + again ≤ length self + length self * length (chars bytes)
few-asked tokens self ends bytes again same is u first some =
    let fits : ends.lead + ends.trail ≤ length self = omega (arith, is.ones.within, length-map tokens shape_of, ap length same) in
    ⊎_elim
    (λ none.
    let empty : length bytes ≡ 0 = ap length (sym (encodes-chars bytes u) ∙ ap encode_utf8_all (nil_from_length (chars bytes) none)) in
    omega (arith, fits, some, empty))
    (λ more.
    let one : 1 ≤ length (chars bytes) = omega (arith, more) in
    omega (arith, fits, first, mul-le-mul_left (length self) one))
    (cases_eq (length (chars bytes)) 0)

-- and with those of the tokens between the ends
all-asked : (n ends between part text again count : ℕ) → between + ends ≤ n → text ≡ part + ends → again ≤ ends
    → count ≤ between * part → ends + again + count ≤ n + n * text
all-asked n ends between part text again count fits split some most =
    let few : between ≤ n = omega (arith, fits) in
    let inside = mul-le-mul_right part few in
    ⊎_elim
    (λ none.
    let all : part ≤ text = omega (arith, split) in
    omega (arith, none, some, most, inside, mul-le-mul_left n all))
    (λ more.
    let less : suc part ≤ text = omega (arith, split, more) in
    omega (arith, fits, some, most, inside, mul-suc n part, mul-le-mul_left n less))
    (cases_eq ends 0)

pub returns-in_default-clause-most : goal.returns-in_default-clause-most
returns-in_default-clause-most g c =
    few-asked c.self.inside.tokens.items c.args.self.now c.self.inside.ends c.args.text.now
    (c.min-first.result + c.min-last.result) c.self.view_is c.self.invariant.at_ends c.utf8.text
    (omega (arith, c.min.ensures, c.min-first.ensures, c.min-2.ensures, c.min-last.ensures))
    (omega (arith, c.min.ensures, c.min-first.ensures, c.min-2.ensures, c.min-last.ensures))

pub returns-then-between-eq0-clause-most : goal.returns-then-between-eq0-clause-most
returns-then-between-eq0-clause-most g c =
    few-asked c.self.inside.tokens.items c.args.self.now c.self.inside.ends c.args.text.now
    (c.min-first.result + c.min-last.result) c.self.view_is c.self.invariant.at_ends c.utf8.text
    (omega (arith, c.min.ensures, c.min-first.ensures, c.min-2.ensures, c.min-last.ensures))
    (omega (arith, c.min.ensures, c.min-first.ensures, c.min-2.ensures, c.min-last.ensures))

pub returns-then-not-may_be_in-clause-most : goal.returns-then-not-may_be_in-clause-most
returns-then-not-may_be_in-clause-most g c =
    few-asked c.self.inside.tokens.items c.args.self.now c.self.inside.ends c.args.text.now
    (c.min-first.result + c.min-last.result) c.self.view_is c.self.invariant.at_ends c.utf8.text
    (omega (arith, c.min.ensures, c.min-first.ensures, c.min-2.ensures, c.min-last.ensures))
    (omega (arith, c.min.ensures, c.min-first.ensures, c.min-2.ensures, c.min-last.ensures))

pub returns-then-between-eq0-clause-answer : goal.returns-then-between-eq0-clause-answer
returns-then-between-eq0-clause-answer g c =
    let read = c.as_slice-tokens.ensures.value ∙ c.self.view_is in
    let left = rw c.if-between-eq0.true at c.in-Some.ensures.match in
    let none = SplitsPart-none c.args.options c.in-Some.part.opening _ c.in-Some.part.text.now c.in-Some.ensures.utf8 in
    rw (← read) (
      λ t. left.1 (none.1 (eqb-true _ _ (sym c.is_empty.ensures ∙ t))),
      λ m. c.is_empty.ensures ∙ eq-eqb _ _ (none.0 (left.0 m)),
    )

pub returns-then-not-may_be_in-clause-answer : goal.returns-then-not-may_be_in-clause-answer
returns-then-not-may_be_in-clause-answer g c =
    let tokens = c.self.inside.tokens.items in
    let ends = c.self.inside.ends in
    let left = rw c.as_slice-tokens.ensures.value at c.in-Some.ensures in (
      λ t. absurd (false≢true t),
      λ m. absurd (false≢true (sym c.if-not-may_be_in.true ∙ (rw c.as_bytes.ensures.value at c.may_be_in.ensures)
          (ContainsFolded-from_part c.args.options c.in-Some.part.opening (drop ends.lead tokens) (length tokens - ends.trail - ends.lead)
          c.self.inside.needle c.in-Some.part.text.now (omega (arith, length-drop ends.lead tokens)) c.self.invariant.inside left.utf8
          (left.match.0 (subst (λ ts. TokensMatch c.args.options ts (chars c.args.text.now)) (sym c.self.view_is) m))))),
    )

pub matches-requires : goal.matches-requires
matches-requires g c = rw
    (range-end c.as_slice-tokens.result.now c.self.inside.ends.lead, c.as_slice-tokens.ensures.value) c.self.invariant.between

pub returns-clause-answer : goal.returns-clause-answer
returns-clause-answer g c =
    let read = c.as_slice-tokens.ensures.value ∙ c.self.view_is in
    let answer = rw (range-end c.as_slice-tokens.result.now c.self.inside.ends.lead) at c.in_ok-answer.ensures.answer in
    let left = c.in-Some.ensures.match in
    rw (← read) (λ t. left.1 (answer.0 t), λ m. answer.1 (left.0 m))

pub returns-in_err-answer-clause-short : goal.returns-in_err-answer-clause-short
returns-in_err-answer-clause-short g c = λ lt.
    absurd (false≢true (c.in_err-answer.ensures.short (omega (arith, lt, ap length (c.as_slice-tokens.ensures.value ∙ c.self.view_is)))))

pub returns-clause-most : goal.returns-clause-most
returns-clause-most g c =
    let tokens = c.as_slice-tokens.result.now in
    let is = subst (λ ts. IsEnds ts c.self.inside.ends) (sym c.as_slice-tokens.ensures.value) c.self.invariant.at_ends in
    let read : length tokens ≡ length c.args.self.now = ap length (c.as_slice-tokens.ensures.value ∙ c.self.view_is) in
    let fits : c.self.inside.ends.lead + c.self.inside.ends.trail ≤ length tokens = omega (arith, is.ones.within, length-map tokens shape_of) in
    all-asked (length c.args.self.now) (c.self.inside.ends.lead + c.self.inside.ends.trail)
    (length tokens - c.self.inside.ends.trail - c.self.inside.ends.lead) (length (chars c.in-Some.part.text.now))
    (length (chars c.args.text.now)) (c.min-first.result + c.min-last.result) c.in_ok-answer.count
    (omega (arith, fits, read)) (omega (arith, c.in-Some.ensures.count, fits, read))
    (omega (arith, c.min.ensures, c.min-first.ensures, c.min-2.ensures, c.min-last.ensures)) c.in_ok-answer.ensures.most

pub overflow_add-result : goal.overflow_add-result
overflow_add-result g c =
    let tokens = c.as_slice-tokens.result.now in
    let is = subst (λ ts. IsEnds ts c.self.inside.ends) (sym c.as_slice-tokens.ensures.value) c.self.invariant.at_ends in
    let fits : c.self.inside.ends.lead + c.self.inside.ends.trail ≤ length tokens = omega (arith, is.ones.within, length-map tokens shape_of) in
    let most = all-asked (length tokens) (c.self.inside.ends.lead + c.self.inside.ends.trail)
    (length tokens - c.self.inside.ends.trail - c.self.inside.ends.lead) (length (chars c.in-Some.part.text.now))
    (length (chars c.args.text.now)) (c.min-first.result + c.min-last.result) c.in_ok-answer.count
    (omega (arith, fits)) (omega (arith, c.in-Some.ensures.count, fits))
    (omega (arith, c.min.ensures, c.min-first.ensures, c.min-2.ensures, c.min-last.ensures)) c.in_ok-answer.ensures.most in
    let room = product_fits (length tokens) (suc (length (chars c.args.text.now))) (omega arith)
    (omega (arith, length-chars c.args.text.now)) in
    omega (arith, most, room, mul-suc (length tokens) (length (chars c.args.text.now)))

pub returns-then-between-eq0-clause-least : goal.returns-then-between-eq0-clause-least
returns-then-between-eq0-clause-least g c = λ yes ruled.
    let none = eqb-true _ _ (sym c.is_empty.ensures ∙ yes) in
    omega (arith, none, length-chars c.in-Some.part.text.now, c.in-Some.ensures.count)

pub returns-clause-least : goal.returns-clause-least
returns-clause-least g c = λ yes ruled. omega (arith, c.in_ok-answer.ensures.least yes ruled, c.in-Some.ensures.count)
