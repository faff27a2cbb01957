use Rattle.std.proofs.Common.{chars, ◌≡◌, ◌≢◌, ◌+◌, ◌-◌, ◌<◌, ◌≤◌, ℕ, Bool, true, false, not, [], length, get_or, refl}
use Rattle.std.proofs.Common.{sym, ap, ◌∙◌, subst, arith}
use Rattle.std.proofs.lemmas.Bool.{false≢true}
use Rattle.std.proofs.lemmas.List.{get_or_default}
use Rattle.glob_pattern.specs.Computing.Tokens.{tokens_of}
use Rattle.glob_pattern.specs.Private.TextTable.{table_of}
use Rattle.glob_pattern.proofs.MatchingLemmas.Splits.{MayReach-le}
use Rattle.glob_captures.specs.Private.Rests.{grows, shape_at, shapes_from, AreRests}
use Rattle.glob_captures.specs.Private.Ends.{IsShortestEnd}
use Rattle.glob_captures.proofs.RestLemmas.Ends.{room, shortest_one, shortest_first}
use Rattle.glob_captures.proofs.RestLemmas.Spans.{rest-room, shortest_last, inner-index, inner-row}
use Rattle.glob_captures.proofs.capturing.shortest_end.Goals as goal

is-false : (b : Bool) → not b ≡ true → b ≡ false
is-false true h = absurd (false≢true h)
is-false false h = refl

is-true : (b : Bool) → not b ≡ false → b ≡ true
is-true true h = refl
is-true false h = absurd (false≢true (sym h))

pub returns-then-not-form-clause-high : goal.returns-then-not-form-clause-high
returns-then-not-form-clause-high g c =
    let inside : c.args.place < length c.args.text.now =
    room c.args.options (tokens_of (chars c.args.pattern.now)) c.args.text.now c.args.token c.args.place
    c.form_of-form.result c.requires.token c.form_of-form.ensures
    (is-false c.form_of-form.result.grows c.if-not-form.true) c.requires.taken in
    omega arith

pub returns-then-not-form-clause-end : goal.returns-then-not-form-clause-end
returns-then-not-form-clause-end g c =
    shortest_one c.args.options (tokens_of (chars c.args.pattern.now)) c.args.text.now c.args.token c.args.place
    c.form_of-form.result c.requires.token c.form_of-form.ensures
    (is-false c.form_of-form.result.grows c.if-not-form.true) c.requires.taken

pub overflow_sub-result-then-token-span-2 : goal.overflow_sub-result-then-token-span-2
overflow_sub-result-then-token-span-2 g c =
    let tokens = tokens_of (chars c.args.pattern.now) in
    omega (
      arith,
      c.tokens_len.ensures.count,
      rest-room c.args.options tokens c.args.text.now c.args.span c.requires.span c.args.token
          (omega arith) c.requires.token c.args.place c.requires.taken,
    )

pub returns-then-token-span-clause-low : goal.returns-then-token-span-clause-low
returns-then-token-span-clause-low g c =
    let tokens = tokens_of (chars c.args.pattern.now) in
    let text = c.args.text.now in
    let n = c.args.token in
    let end : ℕ = length text - (length tokens - 1 - n) in
    let shortest : IsShortestEnd (table_of c.args.options tokens text) n (shape_at tokens n) (shapes_from tokens (n + 1)) c.args.place end =
    shortest_last c.args.options tokens text c.args.span c.requires.span n (omega arith) c.requires.token c.args.place c.requires.taken in
    let low : c.args.place ≤ end = MayReach-le (table_of c.args.options tokens text) (shape_at tokens n)
    (shapes_from tokens (n + 1)) c.args.place end shortest.reach in
    omega (arith, c.tokens_len.ensures.count, low)

pub returns-then-token-span-clause-end : goal.returns-then-token-span-clause-end
returns-then-token-span-clause-end g c =
    let tokens = tokens_of (chars c.args.pattern.now) in
    let text = c.args.text.now in
    let n = c.args.token in
    subst (λ m. IsShortestEnd (table_of c.args.options tokens text) n (shape_at tokens n) (shapes_from tokens (n + 1))
    c.args.place (length text - (m - 1 - n))) (sym c.tokens_len.ensures.count)
    (shortest_last c.args.options tokens text c.args.span c.requires.span n (omega arith) c.requires.token c.args.place c.requires.taken)

pub first_end-requires-clause-many : goal.first_end-requires-clause-many
first_end-requires-clause-many g c =
    let tokens = tokens_of (chars c.args.pattern.now) in
    let i : ℕ = c.args.span.last - 1 - c.args.token in
    let more : grows (shape_at tokens c.args.token) ≡ true = sym c.form_of-form.ensures.many
    ∙ is-true c.form_of-form.result.grows c.if-not-form.false in
    let other : c.args.token ≢ c.args.span.last = omega arith in
    let index = inner-index tokens c.args.span c.args.token c.requires.span c.requires.token more other in
    let row = inner-row tokens c.args.span c.args.token c.requires.span c.requires.token more other c.args.options
    c.args.text.now c.args.rests.now c.requires.rests in
    let read : get_or c.args.rests.now i [] ≡ c.as_slice-next.result.now =
    get_or_default c.args.rests.now i [] c.index-rests-span.result (omega (arith, index, c.requires.rests.many))
    ∙ sym c.index-rests-span.is ∙ sym c.as_slice-next.ensures in
    ap length (sym read) ∙ row.many

pub returns-else-token-span-clause-end : goal.returns-else-token-span-clause-end
returns-else-token-span-clause-end g c =
    let tokens = tokens_of (chars c.args.pattern.now) in
    let i : ℕ = c.args.span.last - 1 - c.args.token in
    let more : grows (shape_at tokens c.args.token) ≡ true = sym c.form_of-form.ensures.many
    ∙ is-true c.form_of-form.result.grows c.if-not-form.false in
    let other : c.args.token ≢ c.args.span.last = omega arith in
    let index = inner-index tokens c.args.span c.args.token c.requires.span c.requires.token more other in
    let row = inner-row tokens c.args.span c.args.token c.requires.span c.requires.token more other c.args.options
    c.args.text.now c.args.rests.now c.requires.rests in
    let read : get_or c.args.rests.now i [] ≡ c.as_slice-next.result.now =
    get_or_default c.args.rests.now i [] c.index-rests-span.result (omega (arith, index, c.requires.rests.many))
    ∙ sym c.index-rests-span.is ∙ sym c.as_slice-next.ensures in
    shortest_first c.args.options tokens c.args.text.now c.args.token c.args.place c.form_of-form.result
    c.requires.token c.form_of-form.ensures
    c.as_slice-next.result.now c.first_end.result (is-true c.form_of-form.result.grows c.if-not-form.false)
    (subst (λ places. AreRests c.args.options tokens c.args.text.now (c.args.token + 1) 0 places) read row)
    c.first_end.ensures c.requires.taken

pub first_end-requires-clause-within : goal.first_end-requires-clause-within
first_end-requires-clause-within g c = c.requires.place

pub returns-then-not-form-clause-low : goal.returns-then-not-form-clause-low
returns-then-not-form-clause-low g c = omega arith

pub returns-then-token-span-clause-high : goal.returns-then-token-span-clause-high
returns-then-token-span-clause-high g c = omega arith

pub returns-else-token-span-clause-low : goal.returns-else-token-span-clause-low
returns-else-token-span-clause-low g c = c.first_end.ensures.low

pub returns-else-token-span-clause-high : goal.returns-else-token-span-clause-high
returns-else-token-span-clause-high g c = c.first_end.ensures.high

pub overflow_sub-span : goal.overflow_sub-span
overflow_sub-span g c =
    let tokens = tokens_of (chars c.args.pattern.now) in
    let more : grows (shape_at tokens c.args.token) ≡ true = sym c.form_of-form.ensures.many
    ∙ is-true c.form_of-form.result.grows c.if-not-form.false in
    let other : c.args.token ≢ c.args.span.last = omega arith in
    omega (arith, inner-index tokens c.args.span c.args.token c.requires.span c.requires.token more other)

pub bounds-rests-span : goal.bounds-rests-span
bounds-rests-span g c =
    let tokens = tokens_of (chars c.args.pattern.now) in
    let more : grows (shape_at tokens c.args.token) ≡ true = sym c.form_of-form.ensures.many
    ∙ is-true c.form_of-form.result.grows c.if-not-form.false in
    let other : c.args.token ≢ c.args.span.last = omega arith in
    omega (arith, inner-index tokens c.args.span c.args.token c.requires.span c.requires.token more other, c.requires.rests.many)

pub offset_bounds-rests-span : goal.offset_bounds-rests-span
offset_bounds-rests-span g c =
    let tokens = tokens_of (chars c.args.pattern.now) in
    let more : grows (shape_at tokens c.args.token) ≡ true = sym c.form_of-form.ensures.many
    ∙ is-true c.form_of-form.result.grows c.if-not-form.false in
    let other : c.args.token ≢ c.args.span.last = omega arith in
    omega (arith, inner-index tokens c.args.span c.args.token c.requires.span c.requires.token more other, c.requires.rests.many)
