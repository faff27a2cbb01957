use Rattle.std.proofs.Common.{◌≡◌, ◌-◌, ◌∙◌, take, ap, sym, arith}
use Rattle.std.proofs.lemmas.Bool.{false≢true}
use Rattle.glob_pattern.proofs.MatchingLemmas.Stripped.{match-needs_ends, cut-within, cut-start, cut-end, cut-count}
use Rattle.glob_pattern.proofs.MatchingLemmas.Stripped.{cut-match, leaves-whole}
use Rattle.glob_pattern.proofs.pattern.ends.Ends.strip_literals.Goals as goal

pub returns-then-self-eq0-2 : goal.returns-then-self-eq0-2
returns-then-self-eq0-2 g c = leaves-whole c.args.tokens.now c.args.self.now c.requires.ends c.args.options
    c.args.text.now c.utf8.text c.if-self-eq0.true c.if-self-eq0-2.true

pub returns-then-not-have_literals : goal.returns-then-not-have_literals
returns-then-not-have_literals g c =
    match-needs_ends c.args.tokens.now c.args.self.now c.requires.ends c.args.pattern.now c.utf8.pattern
    c.requires.pattern c.args.options c.args.text.now c.utf8.text
    (λ has. false≢true (sym c.if-not-have_literals.true ∙ (rw c.as_bytes.ensures.value at c.have_literals.ensures).1 has))

pub overflow_sub-end : goal.overflow_sub-end
overflow_sub-end g c =
    let within = cut-within c.args.tokens.now c.args.self.now c.requires.ends c.args.pattern.now c.utf8.pattern
    c.requires.pattern c.args.options c.args.text.now c.utf8.text
    ((rw c.as_bytes.ensures.value at c.have_literals.ensures).0 c.if-not-have_literals.false) in
    omega (arith, within)

pub range-before-requires-clause-end_boundary : goal.range-before-requires-clause-end_boundary
range-before-requires-clause-end_boundary g c =
    cut-start c.args.tokens.now c.args.self.now c.requires.ends c.args.pattern.now c.utf8.pattern c.requires.pattern
    c.args.options c.args.text.now c.utf8.text
    ((rw c.as_bytes.ensures.value at c.have_literals.ensures).0 c.if-not-have_literals.false)

pub range-left-requires-clause-start_le_end : goal.range-left-requires-clause-start_le_end
range-left-requires-clause-start_le_end g c =
    let within = cut-within c.args.tokens.now c.args.self.now c.requires.ends c.args.pattern.now c.utf8.pattern
    c.requires.pattern c.args.options c.args.text.now c.utf8.text
    ((rw c.as_bytes.ensures.value at c.have_literals.ensures).0 c.if-not-have_literals.false) in
    omega (arith, within)

pub range-left-requires-clause-start_boundary : goal.range-left-requires-clause-start_boundary
range-left-requires-clause-start_boundary g c = λ _.
    cut-start c.args.tokens.now c.args.self.now c.requires.ends c.args.pattern.now c.utf8.pattern c.requires.pattern
    c.args.options c.args.text.now c.utf8.text
    ((rw c.as_bytes.ensures.value at c.have_literals.ensures).0 c.if-not-have_literals.false)

pub range-left-requires-clause-end_boundary : goal.range-left-requires-clause-end_boundary
range-left-requires-clause-end_boundary g c =
    cut-end c.args.tokens.now c.args.self.now c.requires.ends c.args.pattern.now c.utf8.pattern c.requires.pattern
    c.args.options c.args.text.now c.utf8.text
    ((rw c.as_bytes.ensures.value at c.have_literals.ensures).0 c.if-not-have_literals.false)

pub returns : goal.returns
returns g c =
    let found = cut-match c.args.tokens.now c.args.self.now c.requires.ends c.args.pattern.now c.utf8.pattern
    c.requires.pattern c.args.options c.args.text.now c.utf8.text
    ((rw c.as_bytes.ensures.value at c.have_literals.ensures).0 c.if-not-have_literals.false) in
    let none : c.args.self.now.prefix.bytes - 0 ≡ c.args.self.now.prefix.bytes = omega arith in
    let before : c.range-before.result.now ≡ take c.args.self.now.prefix.bytes c.args.text.now =
    c.range-before.ensures.value ∙ ap (λ n. take n c.args.text.now) none in
    let count = cut-count c.args.tokens.now c.args.self.now c.requires.ends c.args.pattern.now c.utf8.pattern
    c.requires.pattern c.args.options c.args.text.now c.utf8.text
    ((rw c.as_bytes.ensures.value at c.have_literals.ensures).0 c.if-not-have_literals.false) in
    record {
      utf8 = c.range-left.utf8;
      count = rw c.range-left.ensures.value count;
      match = rw (c.opens_after.ensures, before, c.range-left.ensures.value) found;
    }
