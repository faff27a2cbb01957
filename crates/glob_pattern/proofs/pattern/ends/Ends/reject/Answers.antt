use Rattle.std.proofs.Common.{◌≡◌, ◌-◌, ◌∙◌, true, not, length, sym, ap, subst, arith}
use Rattle.std.proofs.lemmas.Bool.{false≢true}
use Rattle.std.proofs.lemmas.List.{length-take-le}
use Rattle.glob_pattern.proofs.MatchingLemmas.Stripped.{pattern-first, pattern-last, match-needs_ends, cut-within}
use Rattle.glob_pattern.proofs.MatchingLemmas.Stripped.{first-byte, last-byte, length-range, literals-length, range-end}
use Rattle.glob_pattern.proofs.pattern.ends.Ends.reject.Goals as goal

pub overflow_add-self : goal.overflow_add-self
overflow_add-self g c =
    let first = pattern-first c.args.tokens.now c.args.self.now c.requires.ends c.args.pattern.now c.utf8.pattern c.requires.pattern in
    let last = pattern-last c.args.tokens.now c.args.self.now c.requires.ends c.args.pattern.now c.utf8.pattern c.requires.pattern in
    omega (arith, first.1, last.1, c.as_bytes-literals.ensures.len, ap length c.as_bytes-literals.ensures.value)

pub returns-then-bytes-self : goal.returns-then-bytes-self
returns-then-bytes-self g c = λ yes.
    match-needs_ends c.args.tokens.now c.args.self.now c.requires.ends c.args.pattern.now c.utf8.pattern
    c.requires.pattern c.args.options c.args.text.now c.utf8.text
    (λ has.
    let within = cut-within c.args.tokens.now c.args.self.now c.requires.ends c.args.pattern.now c.utf8.pattern
    c.requires.pattern c.args.options c.args.text.now c.utf8.text has in
    omega (arith, within, c.if-bytes-self.true, ap length c.as_bytes-bytes.ensures.value))

pub slice_bounds-are_same-end-then-self-gt0 : goal.slice_bounds-are_same-end-then-self-gt0
slice_bounds-are_same-end-then-self-gt0 g c =
    let first = pattern-first c.args.tokens.now c.args.self.now c.requires.ends c.args.pattern.now c.utf8.pattern c.requires.pattern in
    sym (length-take-le 1 c.as_bytes-literals.result.now
    (omega (arith, first.1, c.if-self-gt0.true, ap length c.as_bytes-literals.ensures.value)))

pub are_same-requires : goal.are_same-requires
are_same-requires g c =
    let first = pattern-first c.args.tokens.now c.args.self.now c.requires.ends c.args.pattern.now c.utf8.pattern c.requires.pattern in
    let bytes = length-take-le 1 c.as_bytes-bytes.result.now (omega (arith, c.if-bytes-self.false, c.if-self-gt0.true)) in
    let literals = length-take-le 1 c.as_bytes-literals.result.now (omega
    (arith, first.1, c.if-self-gt0.true, ap length c.as_bytes-literals.ensures.value)) in
    omega (arith, bytes, literals)

pub returns-then-not-are_same : goal.returns-then-not-are_same
returns-then-not-are_same g c = λ _.
    match-needs_ends c.args.tokens.now c.args.self.now c.requires.ends c.args.pattern.now c.utf8.pattern
    c.requires.pattern c.args.options c.args.text.now c.utf8.text
    (λ has.
    let same = first-byte c.args.tokens.now c.args.self.now c.requires.ends c.args.pattern.now c.utf8.pattern
    c.requires.pattern c.args.options
    c.args.text.now c.utf8.text has (omega (arith, c.if-self-gt0.true)) in
    let yes = c.are_same.ensures.1 (rw (c.as_bytes-bytes.ensures.value, c.as_bytes-literals.ensures.value) same) in
    false≢true (sym c.if-not-are_same.true ∙ yes))

pub returns-then-bytes-self-2 : goal.returns-then-bytes-self-2
returns-then-bytes-self-2 g c = λ _ match.
    let long = literals-length c.args.tokens.now c.args.self.now c.requires.ends c.args.options c.args.text.now
    c.utf8.text c.if-self-tokens.true match in
    omega (arith, long, c.if-bytes-self-2.true, ap length c.as_bytes-bytes.ensures.value)

pub overflow_sub-literals : goal.overflow_sub-literals
overflow_sub-literals g c =
    let last = pattern-last c.args.tokens.now c.args.self.now c.requires.ends c.args.pattern.now c.utf8.pattern c.requires.pattern in
    omega (arith, last.1, c.if-self-gt0-2.true, ap length c.as_bytes-literals.ensures.value)

pub are_same-requires-then-self-gt0-2 : goal.are_same-requires-then-self-gt0-2
are_same-requires-then-self-gt0-2 g c =
    let bytes = c.as_bytes-bytes.result.now in
    let literals = c.as_bytes-literals.result.now in
    let last = pattern-last c.args.tokens.now c.args.self.now c.requires.ends c.args.pattern.now c.utf8.pattern c.requires.pattern in
    omega (
      arith,
      length-range bytes (length bytes - 1) (length bytes) (omega arith) (omega arith),
      length-range literals (length literals - 1) (length literals) (omega arith) (omega arith),
      c.if-bytes-self.false,
      c.if-self-gt0-2.true,
      last.1,
      ap length c.as_bytes-literals.ensures.value,
    )

pub returns-then-self-gt0-2 : goal.returns-then-self-gt0-2
returns-then-self-gt0-2 g c = λ differ.
    match-needs_ends c.args.tokens.now c.args.self.now c.requires.ends c.args.pattern.now c.utf8.pattern
    c.requires.pattern c.args.options c.args.text.now c.utf8.text
    (λ has.
    let same = last-byte c.args.tokens.now c.args.self.now c.requires.ends c.args.pattern.now c.utf8.pattern
    c.requires.pattern c.args.options
    c.args.text.now c.utf8.text has (omega (arith, c.if-self-gt0-2.true)) in
    let bytes = c.as_bytes-bytes.result.now in
    let literals = c.as_bytes-literals.result.now in
    let all = range-end bytes (length bytes - 1) in
    let whole = range-end literals (length literals - 1) in
    let yes = c.are_same-then-self-gt0-2.ensures.1
    (rw (all, whole, c.as_bytes-bytes.ensures.value, c.as_bytes-literals.ensures.value) same) in
    false≢true (subst (λ b. not b ≡ true) yes differ))
