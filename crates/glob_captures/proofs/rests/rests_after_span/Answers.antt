use Rattle.std.proofs.Common.{◌-◌, ◌+◌, ◌<◌, ℕ, chars, true, false, length, set, replicate, ap, ◌∙◌, arith, rules}
use Rattle.glob_pattern.specs.Computing.Tokens.{tokens_of}
use Rattle.glob_captures.specs.Private.Rests.{TakesRest}
use Rattle.glob_captures.proofs.RestLemmas.Spans.{AreRests-after_span, later-rest, rest-room}
use Rattle.glob_captures.proofs.rests.rests_after_span.Goals as goal

pub overflow_sub-tokens_len-2 : goal.overflow_sub-tokens_len-2
overflow_sub-tokens_len-2 g c =
    let tokens = tokens_of (chars c.args.pattern.now) in
    let below : c.args.span.last < length tokens = c.requires.span.inside (omega (arith, c.requires.some, c.requires.span.within)) in
    omega (arith, c.tokens_len.ensures.count)

pub overflow_sub-text : goal.overflow_sub-text
overflow_sub-text g c =
    let tokens = tokens_of (chars c.args.pattern.now) in
    let last = c.args.span.last in
    let below : last < length tokens = c.requires.span.inside (omega (arith, c.requires.some, c.requires.span.within)) in
    let some : (j : ℕ) × TakesRest c.args.options tokens c.args.text.now last j = later-rest c.args.options tokens
    c.args.text.now last (omega arith) c.requires.taken in
    omega (
      arith,
      c.tokens_len.ensures.count,
      rest-room c.args.options tokens c.args.text.now c.args.span
          c.requires.span last (omega arith) below some.0 some.1,
    )

pub returns : goal.returns
returns g c =
    let tokens = tokens_of (chars c.args.pattern.now) in
    let text = c.args.text.now in
    let last = c.args.span.last in
    let below : last < length tokens = c.requires.span.inside (omega (arith, c.requires.some, c.requires.span.within)) in
    AreRests-after_span c.args.options tokens text c.args.span _ c.requires.span below c.requires.taken
    (ap (λ xs. set xs (length text - (c.tokens_len.result - 1 - last)) true) (c.in_ok-row.ensures.items_if_clones_equal (search rules))
    ∙ ap (λ m. set (replicate (length text + 1) false) (length text - (m - 1 - last)) true) c.tokens_len.ensures.count)
